-- The basis of an extension.
use Rattle.std.specs.Prelude.{ℕ, ◌==◌, cond, List}
use Rattle.algebra.specs.Field.{FieldOps}
use Rattle.algebra.specs.Polynomial.{tabulate}

-- one at `i`, and zero at the other of `n` places
abbrev pub unit_vector : {A : Type 0} → FieldOps A → (n i : ℕ) → List A
unit_vector F n i = tabulate n (λ k. cond (k == i) F.one F.zero)
