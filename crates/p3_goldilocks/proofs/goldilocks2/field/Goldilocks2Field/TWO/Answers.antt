use Rattle.std.proofs.Common.{refl}
use Rattle.p3_goldilocks.specs.GoldilocksLaws.{same_number}
use Rattle.p3_goldilocks.specs.Goldilocks2Laws.{same_coefficients}
use Rattle.p3_goldilocks.proofs.goldilocks2.field.Goldilocks2Field.TWO.Goals as goal

pub returns : goal.returns
returns c = same_coefficients (same_number _ _ refl) (same_number _ _ refl)
