use Rattle.std.proofs.Common.{sym, ap, ◌∙◌, length}
use Rattle.p3_matrix.specs.Matrix.{rows, matrix_width}
use Rattle.p3_fri_masks.specs.Halves.{halved_rows}
use Rattle.p3_fri_masks.proofs.RowHalves.{rows_halved, whole_halves}
use Rattle.p3_fri_masks.proofs.halves.halve_rows.Goals as goal

pub new-requires-clause-whole_rows : goal.new-requires-clause-whole_rows
new-requires-clause-whole_rows g c =
    whole_halves (length (rows c.args.matrix)) c.args.width (matrix_width c.args.matrix) _
    c.requires.has_columns c.requires.twice c.into_values.ensures.len

pub returns-clause-rows : goal.returns-clause-rows
returns-clause-rows g c =
    let values = c.into_values.result in
    c.new.ensures.rows
    ∙ rows_halved c.args.width (matrix_width c.args.matrix) (length (rows c.args.matrix)) values.items
    c.requires.has_columns c.requires.twice (sym values.ok.0 ∙ c.into_values.ensures.len)
    ∙ ap (λ rs. halved_rows c.args.width rs) c.into_values.ensures.rows
