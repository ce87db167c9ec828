use Rattle.std.proofs.Common.{refl, ◌∙◌}
use Rattle.p3_goldilocks.specs.GoldilocksLaws.{same_number}
use Rattle.p3_goldilocks.specs.Goldilocks2Laws.{same_coefficients}
use Rattle.p3_goldilocks.proofs.QuadraticSteps.{multiple2_is}
use Rattle.p3_goldilocks.proofs.goldilocks2.field.Goldilocks2Field.from_u64.Goals as goal

pub returns : goal.returns
returns c =
    same_coefficients c.from_u64.ensures (same_number _ _ refl) ∙ multiple2_is c.args.n
