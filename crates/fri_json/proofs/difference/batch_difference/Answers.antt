use Rattle.std.proofs.Common.{arith}
use Rattle.fri_json.specs.Difference.{IsExpectedMatrix}
use Rattle.fri_json.proofs.Steps.{one_more, all_of_them, expected_text}
use Rattle.fri_json.proofs.difference.batch_difference.Goals as goal

pub loop-index-preserved : goal.loop-index-preserved
loop-index-preserved c = one_more IsExpectedMatrix _ _ c.loop-index.index _ c.deref-matrix-items.ensures.value _ _
    c.loop-index.invariant c.loop-index-test.true (omega arith)
    c.matrix-item.is c.index.ensures c.in_default.ensures.same

pub returns-clause-same : goal.returns-clause-same
returns-clause-same c = record {
  commitment = expected_text c.deref.ensures c.deref-2.ensures
      (c.if-not-eq_ignore_ascii_case.ensures.test.0 search);
  matrices = all_of_them IsExpectedMatrix _ _ _ c.loop-index.invariant (omega arith) (omega arith);
}
