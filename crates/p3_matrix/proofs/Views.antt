-- The rows that a view lends, by where they lie among its values.
use Rattle.std.proofs.Common.{◌≡◌, ℕ, ◌+◌, ◌*◌, ◌/◌, ◌<◌, ◌≤◌, List, length, get_or, sym, arith}
use Rattle.std.specs.List.{between}
use Rattle.p3_matrix.specs.declared.dense.RowMajorMatrixView.{RowMajorMatrixView}
use Rattle.p3_matrix.specs.Matrix.{view_rows, view_width}
use Rattle.p3_matrix.proofs.Rows.{length-rows_of, row_within, get_or-rows_of, length-row_of}

module _ {T : Type 0} (view : RowMajorMatrixView T) (i : ℕ) (below : i < length (view_rows view)) where
  pub view_row_within : i * view.width + view.width ≤ length view.values.now
  unfolding view_rows
  view_row_within = row_within view.width view.values.now i (omega (arith, below, length-rows_of view.width view.values.now))

  pub view_row_is : (d : List T) → between (i * view.width) (i * view.width + view.width) view.values.now ≡ get_or (view_rows view) i d
  unfolding view_rows
  view_row_is d = sym (get_or-rows_of view.width view.values.now i d (omega (arith, below, length-rows_of view.width view.values.now)))

  pub view_row_length : length (between (i * view.width) (i * view.width + view.width) view.values.now) ≡ view_width view
  unfolding view_rows view_width
  view_row_length = length-row_of view.width view.values.now i (omega (arith, below, length-rows_of view.width view.values.now))

module _ {T : Type 0} (view : RowMajorMatrixView T) where
  pub view_at_within : (at : ℕ) → at ≤ length (view_rows view) → at ≤ length view.values.now / view.width
  unfolding view_rows
  view_at_within at l = omega (arith, l, length-rows_of view.width view.values.now)
