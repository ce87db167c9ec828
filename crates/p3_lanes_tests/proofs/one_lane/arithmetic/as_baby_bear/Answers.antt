use Rattle.std.proofs.Common.{ap, ◌∙◌}
use Rattle.algebra.specs.Field.{multiple}
use Rattle.p3_field.specs.BabyBear.{baby_bear}
use Rattle.p3_field.specs.BabyBearLaws.{multiple_canonical}
use Rattle.p3_lanes_tests.specs.OneLane.{of_one_lane}
use Rattle.p3_lanes_tests.proofs.one_lane.arithmetic.as_baby_bear.Goals as goal

pub returns : goal.returns
returns c =
    c.from_canonical.ensures ∙ ap (λ n. multiple baby_bear n) c.from.ensures
    ∙ multiple_canonical (of_one_lane c.args.x)
