-- Tables, as the lists that they hold.
use Rattle.std.specs.Prelude.{List, [], Option, Some, None}
use Rattle.std.specs.declared.vec.Vec.{Vec}
use Rattle.std.specs.declared.alloc.Global.{Global}
use Rattle.p3_matrix.specs.declared.dense.RowMajorMatrix.{RowMajorMatrix}
use Rattle.p3_matrix.specs.Matrix.{rows}
use Rattle.p3_periodic.specs.declared.columns.PeriodicColumns.{PeriodicColumns}
use Rattle.p3_periodic.specs.declared.table.PeriodicLdeTable.{PeriodicLdeTable}

module _ {T : Type 0} where
  -- the columns
  unfoldable pub columns_of : PeriodicColumns T → List (Vec T Global)
  columns_of columns = columns.table.now

  -- the rows of a matrix, if there is one
  abbrev pub rows_if_any : Option (RowMajorMatrix T) → List (List T)
  rows_if_any None = []
  rows_if_any (Some matrix) = rows matrix

  -- the rows of a table on a domain
  unfoldable pub table_rows : PeriodicLdeTable T → List (List T)
  table_rows table = rows_if_any table.values
