use Rattle.std.proofs.Common.{arith, ap, length, ◌∙◌, ◌<◌, ◌/◌}
use Rattle.p3_matrix.specs.Matrix.{rows, matrix_width}
use Rattle.p3_matrix.proofs.Rows.{length-rows_of, get_or-rows_of, length-row_of}
use Rattle.p3_matrix.proofs.laws.rows_law.Goals as goal

pub returns : goal.returns
unfolding rows matrix_width
returns g c i d l =
    let m = c.args.matrix.now in
    let below : i < length m.values.items / m.width = omega (arith, l, length-rows_of m.width m.values.items) in
    ap length (get_or-rows_of m.width m.values.items i d below) ∙ length-row_of m.width m.values.items i below
