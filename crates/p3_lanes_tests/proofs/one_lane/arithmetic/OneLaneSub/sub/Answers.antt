use Rattle.std.proofs.Common.{ap, ap₂, ◌∙◌}
use Rattle.algebra.specs.Field.{sub}
use Rattle.p3_field.specs.BabyBear.{baby_bear}
use Rattle.p3_lanes_tests.specs.OneLane.{one_lane, one_lane_of}
use Rattle.p3_lanes_tests.proofs.one_lane.arithmetic.OneLaneSub.sub.Goals as goal

pub returns : goal.returns
unfolding one_lane
returns c =
    c.of_baby_bear.ensures
    ∙ ap one_lane_of (c.sub.ensures
    ∙ ap₂ (λ x y. sub baby_bear x y) c.as_baby_bear.ensures c.as_baby_bear-2.ensures)
