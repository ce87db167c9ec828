use Rattle.std.proofs.Common.{◌+◌, ◌-◌, ap, ◌∙◌, arith}
use Rattle.p3_baby_bear.specs.Lanes.{lane_of}
use Rattle.p3_baby_bear.proofs.LaneSteps.{canonical_zip2, lane_difference}
use Rattle.p3_baby_bear.proofs.baby_bear.lanes.BabyBear8LanesSub.sub.Goals as goal

pub invariant_of-result : goal.invariant_of-result
invariant_of-result c =
    record { canonical = λ l. rw c.differences.ensures (canonical_zip2 (λ m n. m + (2013265921 - n)) c.args.self.numbers c.args.rhs.numbers l) }

pub returns : goal.returns
returns c l within =
    ap (λ ns. lane_of ns l) c.differences.ensures
    ∙ lane_difference c.args.self.numbers c.args.rhs.numbers l within (omega arith) (omega arith) (c.args.rhs.canonical l)
