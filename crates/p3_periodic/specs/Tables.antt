-- Tables of the values of periodic columns on a domain.
use Rattle.std.specs.Prelude.{◌≡◌, ℕ, ◌+◌, ◌*◌, ◌/◌, ◌%◌, ◌<◌, List, [], length}
use Rattle.std.specs.Prelude.{slice_index_or}
use Rattle.std.specs.Int.Count.{count_trailing_zeros}
use Rattle.std.specs.List.{AllZip}
use Rattle.std.specs.declared.vec.Vec.{Vec}
use Rattle.algebra.specs.Field.{FieldOps}
use Rattle.algebra.specs.Periodic.{periodic_value}
use Rattle.p3_periodic.specs.Batches.{column_at}
use Rattle.p3_periodic.specs.Columns.{greatest_period}
use Rattle.p3_periodic.specs.Writes.{IsMet}

-- what a table shows at an index: the row at it, modulo the number of rows
abbrev pub table_row : {T : Type 0} (rows : List (List T)) (index : ℕ) → List T
table_row rows index = slice_index_or rows (index % length rows) []

-- A table of the columns on a domain `blowup` times as large as their trace's: so many times the
-- greatest period of rows, and at each index the columns' values there.
pub record AreTabulated {T A : Type 0} (columns : List (Vec T A)) (blowup : ℕ)
    (IsValue : (index : ℕ) (column : Vec T A) (value : T) → Type 0)
    (rows : List (List T)) : Type 0 where
  pub height : length rows ≡ greatest_period columns * blowup
  pub values : (index : ℕ) → AllZip (IsValue index) columns (table_row rows index)

-- the exponent of a power of two below `2^64`
abbrev pub exponent_of : ℕ → ℕ
exponent_of n = count_trailing_zeros 64 n

module _ {A : Type 0} (F : FieldOps A) (w : ℕ → A) (log_rows : ℕ) (point : ℕ → A)
    (columns : List (List A)) where
  -- what belongs at a place of the table, row after row, an entry to a column: that column's value
  -- at the row's point
  unfoldable pub table_entry : (place : ℕ) → A
  table_entry place =
      let column = column_at columns (place % length columns) in
      periodic_value F w (exponent_of (length column)) log_rows column
      (point (place / length columns))

  -- after a call the table of `height` rows has the values of all columns of one length, and what
  -- it had of the others
  pub record MeetColumns (height period : ℕ) (before after : List A) : Type 0 where
    pub kept : (place : ℕ) → IsMet table_entry before place → IsMet table_entry after place
    pub met : (i j : ℕ) → i < height → j < length columns → length (column_at columns j) ≡ period
        → IsMet table_entry after (i * length columns + j)
