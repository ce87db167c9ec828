-- Polynomials as lists of coefficients, the constant first.
use Rattle.std.specs.Prelude.{ℕ, zero, suc, List, [], ◌∷◌, length, slice_index_or}
use Rattle.algebra.specs.Field.{FieldOps, pow}

-- the list `f 0, .., f (n - 1)`
abbrev pub tabulate : {A : Type 0} → ℕ → (ℕ → A) → List A
tabulate zero f = []
tabulate (suc n) f = f zero ∷ tabulate n (λ i. f (suc i))

module _ {A : Type 0} (F : FieldOps A) where
  infixl 65 ◌⊕◌
  infixl 70 ◌⊗◌
  open F use {zero as 𝟘, add as ◌⊕◌, mul as ◌⊗◌}

  -- `f 0 + .. + f (n - 1)`
  unfoldable pub sum_below : ℕ → (ℕ → A) → A
  sum_below zero f = 𝟘
  sum_below (suc n) f = f zero ⊕ sum_below n (λ i. f (suc i))

  -- the value of the polynomial `c` at `x`: the sum of `c_i * x^i`
  unfoldable pub val : List A → A → A
  val c x = sum_below (length c) (λ i. slice_index_or c i 𝟘 ⊗ pow F x i)

  -- the quotient of the polynomial `c` by `X - r`
  abbrev pub quotient : List A → A → List A
  quotient [] r = []
  quotient (c ∷ []) r = []
  quotient (c ∷ d ∷ ds) r = val (d ∷ ds) r ∷ quotient (d ∷ ds) r
