use Rattle.std.proofs.Common.{◌∙◌}
use Rattle.p3_koala_bear.specs.KoalaBear4Laws.{same_coefficients}
use Rattle.p3_koala_bear.specs.KoalaBear4Laws.{scaled_is}
use Rattle.p3_koala_bear.proofs.koala_bear4.extension.KoalaBear4ExtensionFieldKoalaBear.scale.Goals as goal

pub returns : goal.returns
returns c =
    same_coefficients c.mul.ensures c.mul-2.ensures c.mul-3.ensures c.mul-4.ensures
    ∙ scaled_is c.args.self c.args.factor
