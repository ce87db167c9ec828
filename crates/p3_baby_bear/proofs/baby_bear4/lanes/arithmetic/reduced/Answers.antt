use Rattle.std.proofs.Common.{ap, ◌∙◌, arith}
use Rattle.p3_baby_bear.specs.Lanes.{lane_of}
use Rattle.p3_baby_bear.proofs.LaneSteps.{canonical_map, lane_rest}
use Rattle.p3_baby_bear.proofs.baby_bear4.lanes.arithmetic.reduced.Goals as goal

pub invariant_of-result : goal.invariant_of-result
invariant_of-result c =
    record { canonical = λ l. rw c.reduced_sum.ensures (canonical_map (λ n. n) c.args.sums l) }

pub returns : goal.returns
returns c l within =
    ap (λ ns. lane_of ns l) c.reduced_sum.ensures ∙ lane_rest c.args.sums l within (omega arith)
