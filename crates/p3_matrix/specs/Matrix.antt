-- What contracts see of a matrix.
use Rattle.std.specs.Prelude.{ℕ, List}
use Rattle.p3_matrix.specs.Rows.{rows_of}
use Rattle.p3_matrix.specs.declared.dense.RowMajorMatrix.{RowMajorMatrix}
use Rattle.p3_matrix.specs.declared.dense.RowMajorMatrixView.{RowMajorMatrixView}

module _ {T : Type 0} where
  -- the rows of the matrix
  unfoldable pub rows : RowMajorMatrix T → List (List T)
  rows matrix = rows_of matrix.width matrix.values.items

  -- the number of its columns
  unfoldable pub matrix_width : RowMajorMatrix T → ℕ
  matrix_width matrix = matrix.width

  -- the rows that a view lends
  unfoldable pub view_rows : RowMajorMatrixView T → List (List T)
  view_rows view = rows_of view.width view.values.now

  -- the number of their columns
  unfoldable pub view_width : RowMajorMatrixView T → ℕ
  view_width view = view.width
