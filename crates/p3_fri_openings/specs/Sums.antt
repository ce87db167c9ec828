-- Sums over the rows of a matrix.
use Rattle.std.specs.Prelude.{◌≡◌, ℕ, List, [], length, take, slice_index_or}
use Rattle.algebra.specs.Field.{FieldOps}
use Rattle.algebra.specs.Polynomial.{sum_below}

-- the first entries are these
abbrev pub StartsWith : {X : Type 0} → (xs start : List X) → Type 0
StartsWith xs start = take (length start) xs ≡ start

-- the entry of a row in column `j`, times a weight
abbrev pub weighted : {F E : Type 0} → FieldOps F → FieldOps E → (F → E) → (j : ℕ) (weight : E)
    (row : List F) → E
weighted F K lift j weight row = K.mul weight (lift (slice_index_or row j F.zero))

-- the sum of the first `count` entries of column `j`, each times the inverse difference and the
-- point beside it
abbrev pub weighted_sum : {F E : Type 0} → FieldOps F → FieldOps E → (F → E) → (count : ℕ)
    → (points : List F) → (inverses : List E) → (rows : List (List F)) → (j : ℕ) → E
weighted_sum F K lift count points inverses rows j = sum_below K count (λ i.
    weighted F K lift j
    (K.mul (slice_index_or inverses i K.zero) (lift (slice_index_or points i F.zero)))
    (slice_index_or rows i []))
