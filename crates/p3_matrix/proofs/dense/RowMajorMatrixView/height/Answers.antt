use Rattle.std.proofs.Common.{sym}
use Rattle.p3_matrix.specs.Matrix.{view_rows}
use Rattle.p3_matrix.proofs.Rows.{length-rows_of}
use Rattle.p3_matrix.proofs.dense.RowMajorMatrixView.height.Goals as goal

pub returns : goal.returns
unfolding view_rows
returns g c = sym (length-rows_of c.args.self.now.width c.args.self.now.values.now)
