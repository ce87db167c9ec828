use Rattle.std.proofs.Common.{arith, refl}
use Rattle.fri_json.specs.Difference.{IsExpectedBatch}
use Rattle.fri_json.proofs.Steps.{one_more, all_of_them}
use Rattle.fri_json.proofs.difference.claims_difference.Goals as goal

pub loop-index-preserved : goal.loop-index-preserved
loop-index-preserved c = one_more IsExpectedBatch _ _ c.loop-index.index _ refl _ _
    c.loop-index.invariant c.loop-index-test.true (omega arith)
    c.index-claims-index.is c.index-expected-index.is c.in_default.ensures.same

pub returns-clause-same : goal.returns-clause-same
returns-clause-same c = all_of_them IsExpectedBatch _ _ _ c.loop-index.invariant
    (omega arith) (omega arith)
