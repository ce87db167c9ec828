use Rattle.std.proofs.Common.{◌∙◌}
use Rattle.p3_goldilocks.specs.Goldilocks2Laws.{same_coefficients}
use Rattle.p3_goldilocks.specs.Goldilocks2Laws.{scaled_is}
use Rattle.p3_goldilocks.proofs.goldilocks2.extension.Goldilocks2ExtensionFieldGoldilocks.scale.Goals as goal

pub returns : goal.returns
returns c = same_coefficients c.mul.ensures c.mul-2.ensures ∙ scaled_is c.args.self c.args.factor
