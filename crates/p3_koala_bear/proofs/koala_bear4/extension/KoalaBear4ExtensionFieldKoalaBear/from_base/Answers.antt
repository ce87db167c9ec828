use Rattle.std.proofs.Common.{refl}
use Rattle.p3_koala_bear.specs.KoalaBearLaws.{same_number}
use Rattle.p3_koala_bear.specs.KoalaBear4Laws.{same_coefficients}
use Rattle.p3_koala_bear.proofs.koala_bear4.extension.KoalaBear4ExtensionFieldKoalaBear.from_base.Goals as goal

pub returns : goal.returns
returns c =
    same_coefficients refl (same_number _ _ refl) (same_number _ _ refl) (same_number _ _ refl)
