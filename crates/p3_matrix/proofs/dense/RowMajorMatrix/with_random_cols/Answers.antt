use Rattle.std.proofs.Common.{arith, ◌≡◌, ◌*◌, length, ap, ◌∙◌}
use Rattle.p3_matrix.specs.Matrix.{rows}
use Rattle.p3_matrix.proofs.Columns.{row_widened, past_all_rows, random_rows_written, whole_rows}
use Rattle.p3_matrix.proofs.dense.RowMajorMatrix.with_random_cols.Goals as goal

pub loop-index-preserved : goal.loop-index-preserved
loop-index-preserved g c = record {
  widening = row_widened g.T.SampleField.from_word c.args.count _ _ _ _ _ _ _ _ _ c.loop-index.invariant.widening
      (omega (arith, c.loop-index-test.true, c.height-height.ensures)) c.row.ensures.row
      c.in_ok-extend_from_slice.ensures.items c.in_ok-push_random.ensures.values c.in_ok-push_random.ensures.past;
  room = omega (arith, c.loop-index.invariant.room, c.extend_from_slice.ensures.capacity, c.push_random.ensures.capacity);
  len = omega (
    arith,
    c.loop-index.invariant.len,
    c.in_ok-extend_from_slice.ensures.len,
    c.in_ok-push_random.ensures.len,
    c.row.ensures.width,
    c.width.ensures.columns,
    c.in-Some.ensures.1,
  );
}

pub new-requires-clause-whole_rows : goal.new-requires-clause-whole_rows
new-requires-clause-whole_rows g c =
    let all : c.loop-index.index ≡ length (rows c.args.self.now) =
    omega (arith, c.loop-index-test.false, c.loop-index.auto.index-end, c.height-height.ensures) in
    whole_rows (length (rows c.args.self.now)) c.in-Some.width _
    (omega (arith, c.in-Some.ensures.1, c.width.ensures.some))
    (c.loop-index.invariant.len ∙ ap (λ n. n * c.in-Some.width) all)

pub returns-clause-rows : goal.returns-clause-rows
returns-clause-rows g c =
    c.new.ensures.rows
    ∙ random_rows_written g.T.SampleField.from_word c.args.count c.args.self.now c.loop-index.index c.in-Some.width
    c.loop-index.values.items (g.R.Rng.stream c.args.rng.now) (g.R.Rng.stream c.loop-index.rng)
    (omega (arith, c.loop-index-test.false, c.height-height.ensures))
    (omega (arith, c.in-Some.ensures.1, c.width.ensures.some))
    (omega (arith, c.in-Some.ensures.1, c.width.ensures.columns))
    c.loop-index.invariant.widening.values

pub returns-clause-past : goal.returns-clause-past
returns-clause-past g c =
    past_all_rows g.T.SampleField.from_word c.args.count (length (rows c.args.self.now)) c.loop-index.index
    (g.R.Rng.stream c.loop-index.rng) _
    (omega (arith, c.loop-index-test.false, c.height-height.ensures))
    c.loop-index.invariant.widening.stream
