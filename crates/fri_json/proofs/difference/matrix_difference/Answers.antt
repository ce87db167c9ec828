use Rattle.std.proofs.Common.{arith, ap}
use Rattle.fri_json.specs.Difference.{IsExpectedPoint}
use Rattle.fri_json.proofs.Steps.{one_more, all_of_them}
use Rattle.fri_json.proofs.difference.matrix_difference.Goals as goal

pub loop-index-preserved : goal.loop-index-preserved
loop-index-preserved c = one_more IsExpectedPoint _ _ c.loop-index.index _ c.deref-point-items.ensures.value _ _
    c.loop-index.invariant c.loop-index-test.true (omega arith)
    c.point-item.is c.index.ensures c.in_default-point_difference.ensures.same

pub returns-clause-same : goal.returns-clause-same
returns-clause-same c = record {
  shift = ap (λ d. d.shift) c.in_default.ensures.same;
  log_size = ap (λ d. d.log_size) c.in_default.ensures.same;
  points = all_of_them IsExpectedPoint _ _ _ c.loop-index.invariant (omega arith) (omega arith);
}
