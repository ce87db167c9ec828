-- Values on a coset, split into chunks.
use Rattle.std.specs.Prelude.{ℕ, ◌+◌, ◌*◌, ◌^◌, List, slice_index_or}
use Rattle.algebra.specs.Polynomial.{tabulate}

-- the rows of the chunk at `i` of `2^d`, of `2^k` rows each: the coefficients of every `2^d`-th
-- value from the one at `i` on
abbrev pub chunk_rows : {V A : Type 0} → (coefficients : A → List V) → (nothing : A) → (k d : ℕ)
    → (values : List A) → (i : ℕ) → List (List V)
chunk_rows coefficients nothing k d values i =
    tabulate (2 ^ k) (λ j. coefficients (slice_index_or values (i + j * 2 ^ d) nothing))
