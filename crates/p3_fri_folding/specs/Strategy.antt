-- What is asked of any strategy of folding.
use Rattle.std.specs.Prelude.{ℕ, ◌^◌, List, [], slice_index_or}
use Rattle.algebra.specs.Polynomial.{tabulate}

-- the fold of each of `2^h` rows, where `fold` gives that of one
abbrev pub folded_rows : {A : Type 0} (fold : ℕ → ℕ → ℕ → A → List A → A) (h a : ℕ) (beta : A)
    (rows : List (List A)) → List A
folded_rows fold h a beta rows = tabulate (2 ^ h) (λ i. fold i h a beta (slice_index_or rows i []))
