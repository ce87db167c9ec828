use Rattle.std.proofs.Common.{arith, ◌≡◌, ◌*◌, length, ap, ◌∙◌}
use Rattle.p3_matrix.specs.Matrix.{rows}
use Rattle.p3_matrix.proofs.Columns.{zero_rows_written, whole_rows}
use Rattle.p3_matrix.proofs.dense.RowMajorMatrix.with_zero_cols.Goals as goal

pub new-requires-clause-whole_rows : goal.new-requires-clause-whole_rows
new-requires-clause-whole_rows g c =
    let all : c.loop-index.index ≡ length (rows c.args.self.now) =
    omega (arith, c.loop-index-test.false, c.loop-index.auto.index-end, c.height-height.ensures) in
    whole_rows (length (rows c.args.self.now)) c.in-Some.width _
    (omega (arith, c.in-Some.ensures.1, c.width.ensures.some))
    (c.loop-index.invariant.len ∙ ap (λ n. n * c.in-Some.width) all)

pub returns-clause-rows : goal.returns-clause-rows
returns-clause-rows g c =
    c.new.ensures.rows
    ∙ zero_rows_written g.T.Field.ops.zero c.args.count c.args.self.now c.loop-index.index c.in-Some.width
    c.loop-index.padded.items
    (omega (arith, c.loop-index-test.false, c.height-height.ensures))
    (omega (arith, c.in-Some.ensures.1, c.width.ensures.some))
    (omega (arith, c.in-Some.ensures.1, c.width.ensures.columns))
    c.loop-index.invariant.rows
