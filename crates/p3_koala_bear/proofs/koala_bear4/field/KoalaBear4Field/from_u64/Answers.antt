use Rattle.std.proofs.Common.{refl, ◌∙◌}
use Rattle.p3_koala_bear.specs.KoalaBearLaws.{same_number}
use Rattle.p3_koala_bear.specs.KoalaBear4Laws.{same_coefficients}
use Rattle.p3_koala_bear.proofs.QuarticSteps.{multiple4_is}
use Rattle.p3_koala_bear.proofs.koala_bear4.field.KoalaBear4Field.from_u64.Goals as goal

pub returns : goal.returns
returns c =
    same_coefficients c.from_u64.ensures (same_number _ _ refl) (same_number _ _ refl)
    (same_number _ _ refl) ∙ multiple4_is c.args.n
