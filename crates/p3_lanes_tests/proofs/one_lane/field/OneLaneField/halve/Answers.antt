use Rattle.std.proofs.Common.{ap, ◌∙◌}
use Rattle.p3_field.specs.BabyBear.{baby_bear}
use Rattle.p3_lanes_tests.specs.OneLane.{one_lane, one_lane_of, of_one_lane}
use Rattle.p3_lanes_tests.specs.declared.one_lane.OneLane.{OneLane}
use Rattle.p3_lanes_tests.proofs.one_lane.field.OneLaneField.halve.Goals as goal

pub returns : goal.returns
unfolding one_lane
returns c =
    ap (λ (x : OneLane). one_lane_of (baby_bear.add (of_one_lane x) (of_one_lane x))) c.of_baby_bear.ensures
    ∙ ap one_lane_of (c.halve.ensures ∙ c.as_baby_bear.ensures)
