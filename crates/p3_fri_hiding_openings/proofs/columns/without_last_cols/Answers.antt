use Rattle.std.proofs.Common.{◌-◌, ap, ◌∙◌, arith}
use Rattle.p3_matrix.specs.Matrix.{rows}
use Rattle.p3_matrix.proofs.Columns.{whole_rows}
use Rattle.p3_fri_hiding_openings.proofs.Kept.{kept_rows, kept_rows_written}
use Rattle.p3_fri_hiding_openings.proofs.columns.without_last_cols.Goals as goal

pub new-requires-clause-whole_rows : goal.new-requires-clause-whole_rows
new-requires-clause-whole_rows g c =
    whole_rows c.loop-index.index (c.width.result - c.args.count) _
    (omega (arith, c.requires.more, c.width.ensures.columns)) c.loop-index.invariant.len

pub returns-clause-rows : goal.returns-clause-rows
returns-clause-rows g c =
    c.new.ensures.rows
    ∙ kept_rows_written (c.width.result - c.args.count) c.args.matrix c.loop-index.index
    c.loop-index.values.items
    (omega (arith, c.loop-index-test.false, c.loop-index.auto.index-end, c.height-index-end.ensures))
    (omega (arith, c.requires.more, c.width.ensures.columns))
    (omega (arith, c.width.ensures.columns)) c.loop-index.invariant.rows
    ∙ ap (λ w. kept_rows (w - c.args.count) (rows c.args.matrix)) c.width.ensures.columns
