use Rattle.std.proofs.Common.{◌-◌, ap, ◌∙◌, arith}
use Rattle.p3_baby_bear.specs.Lanes.{lane_of}
use Rattle.p3_baby_bear.proofs.LaneSteps.{canonical_map, lane_opposite}
use Rattle.p3_baby_bear.proofs.baby_bear.lanes.BabyBear8LanesNeg.neg.Goals as goal

pub invariant_of-result : goal.invariant_of-result
invariant_of-result c =
    record { canonical = λ l. rw c.opposites.ensures (canonical_map (λ n. 2013265921 - n) c.args.self.numbers l) }

pub returns : goal.returns
returns c l within =
    ap (λ ns. lane_of ns l) c.opposites.ensures
    ∙ lane_opposite c.args.self.numbers l within (omega arith) (c.args.self.canonical l)
