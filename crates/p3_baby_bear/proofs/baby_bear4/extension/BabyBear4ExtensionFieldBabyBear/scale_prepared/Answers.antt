use Rattle.std.proofs.Common.{◌∙◌}
use Rattle.p3_baby_bear.specs.BabyBear4Laws.{same_coefficients}
use Rattle.p3_baby_bear.specs.BabyBear4Laws.{scaled_is}
use Rattle.p3_baby_bear.proofs.baby_bear4.extension.BabyBear4ExtensionFieldBabyBear.scale_prepared.Goals as goal

pub returns : goal.returns
returns c =
    same_coefficients c.times.ensures c.times-2.ensures c.times-3.ensures c.times-4.ensures
    ∙ scaled_is c.args.self c.args.factor.factor
