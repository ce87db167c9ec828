use Rattle.std.proofs.Common.{refl}
use Rattle.p3_baby_bear.specs.BabyBearLaws.{same_number}
use Rattle.p3_baby_bear.specs.BabyBear4Laws.{same_coefficients}
use Rattle.p3_baby_bear.proofs.baby_bear4.extension.BabyBear4ExtensionFieldBabyBear.from_base.Goals as goal

pub returns : goal.returns
returns c =
    same_coefficients refl (same_number _ _ refl) (same_number _ _ refl) (same_number _ _ refl)
