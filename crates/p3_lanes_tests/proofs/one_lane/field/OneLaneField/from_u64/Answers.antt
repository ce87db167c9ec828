use Rattle.std.proofs.Common.{ap, ◌∙◌}
use Rattle.p3_lanes_tests.specs.OneLane.{one_lane_of, multiple1_is}
use Rattle.p3_lanes_tests.proofs.one_lane.field.OneLaneField.from_u64.Goals as goal

pub returns : goal.returns
returns c = c.of_baby_bear.ensures ∙ ap one_lane_of c.from_u64.ensures ∙ multiple1_is c.args.n
