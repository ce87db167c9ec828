-- Sums of elements of the base field, each times an element of the extension.
use Rattle.std.specs.Prelude.{ℕ, ◌+◌, ◌*◌, List, slice_index_or}
use Rattle.algebra.specs.Field.{FieldOps}

module _ {A E : Type 0} (F : FieldOps A) (K : FieldOps E) (lift : A → E) where
  -- a row's entry at `i`, times the value beside it
  abbrev pub row_term : (values : List E) (row : List A) (i : ℕ) → E
  row_term values row i =
      K.mul (slice_index_or values i K.zero) (lift (slice_index_or row i F.zero))

  -- in rows of `width` entries one after another, the entry of row `i` in column `j`, times the
  -- weight of the row
  abbrev pub column_term : (width : ℕ) (weights : List E) (rows : List A) (j i : ℕ) → E
  column_term width weights rows j i =
      K.mul (slice_index_or weights i K.zero) (lift (slice_index_or rows (i * width + j) F.zero))
