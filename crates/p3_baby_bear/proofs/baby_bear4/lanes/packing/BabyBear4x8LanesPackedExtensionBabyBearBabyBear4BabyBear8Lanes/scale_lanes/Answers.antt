use Rattle.std.proofs.Common.{◌∙◌}
use Rattle.p3_baby_bear.specs.Lanes.{lane_of}
use Rattle.p3_baby_bear.specs.Lanes4.{lane4_of}
use Rattle.p3_baby_bear.specs.BabyBear4Laws.{same_coefficients}
use Rattle.p3_baby_bear.specs.BabyBear4Laws.{scaled_is}
use Rattle.p3_baby_bear.proofs.baby_bear4.lanes.packing.BabyBear4x8LanesPackedExtensionBabyBearBabyBear4BabyBear8Lanes.scale_lanes.Goals as goal

pub returns : goal.returns
returns c l within =
    same_coefficients (c.mul.ensures l within) (c.mul-2.ensures l within) (c.mul-3.ensures l within) (c.mul-4.ensures l within)
    ∙ scaled_is (lane4_of c.args.self l) (lane_of c.args.factors.numbers l)
