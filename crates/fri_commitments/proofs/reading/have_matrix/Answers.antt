use Rattle.std.proofs.Common.{refl, sym, ◌∙◌}
use Rattle.fri_commitments.proofs.Preprocessing.{some_at, some_list}
use Rattle.fri_commitments.proofs.reading.have_matrix.Goals as goal

pub returns-then-not-is_empty : goal.returns-then-not-is_empty
returns-then-not-is_empty c = (
  (λ _. some_at (λ b. b.matrices.items) c.args.batches.now c.loop-batch.batch-index c.batch-item.result
      c.loop-batch-test.true c.batch-item.is
      (some_list c.batch-item.result.matrices.items _ (sym c.batch-item.result.matrices.ok.0)
      (sym c.is_empty.ensures ∙ c.if-not-is_empty.true))),
  (λ _. refl),
)
