use Rattle.std.proofs.Common.{rules}
use Rattle.p3_matrix.specs.Matrix.{rows, matrix_width, view_rows, view_width}
use Rattle.p3_matrix.proofs.dense.RowMajorMatrix.as_view.Goals as goal

pub returns-clause-rows : goal.returns-clause-rows
unfolding rows view_rows
returns-clause-rows g c = search rules

pub returns-clause-width : goal.returns-clause-width
unfolding matrix_width view_width
returns-clause-width g c = search rules
