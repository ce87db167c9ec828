use Rattle.std.proofs.Common.{[], ◌∷◌}
use Rattle.p3_baby_bear.proofs.LaneSteps.{values_below, lane_of_values}
use Rattle.p3_baby_bear.proofs.baby_bear.lanes.lanes_of.Goals as goal

pub invariant_of-result : goal.invariant_of-result
invariant_of-result c =
    let a = c.args.first in
    let b = c.args.others in
    record { canonical = values_below (a.0 ∷ a.1 ∷ a.2 ∷ a.3 ∷ b.0 ∷ b.1 ∷ b.2 ∷ b.3 ∷ []) }

pub returns : goal.returns
returns c l within =
    let a = c.args.first in
    let b = c.args.others in
    lane_of_values (a.0 ∷ a.1 ∷ a.2 ∷ a.3 ∷ b.0 ∷ b.1 ∷ b.2 ∷ b.3 ∷ []) l
