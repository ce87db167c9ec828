use Rattle.std.proofs.Common.{ap₂, ◌∙◌}
use Rattle.algebra.specs.Field.{sub}
use Rattle.p3_koala_bear.specs.KoalaBear.{koala_bear}
use Rattle.p3_koala_bear.proofs.QuarticSteps.{three_is}
use Rattle.p3_koala_bear.proofs.koala_bear4.field.even_norm_of.Goals as goal

pub returns : goal.returns
returns c =
    c.sub.ensures ∙ ap₂ (sub koala_bear) c.square.ensures
    (c.mul.ensures ∙ ap₂ koala_bear.mul (c.from_u64.ensures ∙ three_is) c.square-2.ensures)
