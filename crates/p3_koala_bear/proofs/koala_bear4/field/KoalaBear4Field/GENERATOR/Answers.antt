use Rattle.std.proofs.Common.{refl}
use Rattle.p3_koala_bear.specs.KoalaBearLaws.{same_number}
use Rattle.p3_koala_bear.specs.KoalaBear4Laws.{same_coefficients}
use Rattle.p3_koala_bear.proofs.koala_bear4.field.KoalaBear4Field.GENERATOR.Goals as goal

pub returns : goal.returns
returns c =
    same_coefficients (same_number _ _ refl) (same_number _ _ refl) (same_number _ _ refl)
    (same_number _ _ refl)
