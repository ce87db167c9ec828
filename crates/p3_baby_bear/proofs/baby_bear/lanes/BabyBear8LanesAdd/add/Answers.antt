use Rattle.std.proofs.Common.{◌+◌, ap, ◌∙◌, arith}
use Rattle.p3_baby_bear.specs.Lanes.{lane_of}
use Rattle.p3_baby_bear.proofs.LaneSteps.{canonical_zip2, lane_sum}
use Rattle.p3_baby_bear.proofs.baby_bear.lanes.BabyBear8LanesAdd.add.Goals as goal

pub invariant_of-result : goal.invariant_of-result
invariant_of-result c =
    record { canonical = λ l. rw c.sums.ensures (canonical_zip2 (λ m n. m + n) c.args.self.numbers c.args.rhs.numbers l) }

pub returns : goal.returns
returns c l within =
    ap (λ ns. lane_of ns l) c.sums.ensures
    ∙ lane_sum c.args.self.numbers c.args.rhs.numbers l within (omega arith) (omega arith)
