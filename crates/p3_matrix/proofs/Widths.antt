-- The width of a matrix's rows.
use Rattle.std.proofs.Common.{◌≡◌, ℕ, ◌/◌, ◌<◌, [], length, get_or, ap, ◌∙◌, arith}
use Rattle.p3_matrix.specs.declared.dense.RowMajorMatrix.{RowMajorMatrix}
use Rattle.p3_matrix.specs.Matrix.{rows, matrix_width}
use Rattle.p3_matrix.proofs.Rows.{length-rows_of, get_or-rows_of, length-row_of}

pub row_width : {T : Type 0} (matrix : RowMajorMatrix T) (i : ℕ) → i < length (rows matrix)
    → length (get_or (rows matrix) i []) ≡ matrix_width matrix
unfolding rows matrix_width
row_width matrix i l =
    let below : i < length matrix.values.items / matrix.width =
    omega (arith, l, length-rows_of matrix.width matrix.values.items) in
    ap length (get_or-rows_of matrix.width matrix.values.items i [] below)
    ∙ length-row_of matrix.width matrix.values.items i below
