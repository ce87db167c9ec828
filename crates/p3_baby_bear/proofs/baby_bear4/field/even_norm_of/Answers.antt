use Rattle.std.proofs.Common.{ap₂, ◌∙◌}
use Rattle.algebra.specs.Field.{sub}
use Rattle.p3_baby_bear.specs.BabyBear.{baby_bear}
use Rattle.p3_baby_bear.proofs.QuarticSteps.{eleven_is}
use Rattle.p3_baby_bear.proofs.baby_bear4.field.even_norm_of.Goals as goal

pub returns : goal.returns
returns c =
    c.sub.ensures ∙ ap₂ (sub baby_bear) c.square.ensures
    (c.mul.ensures ∙ ap₂ baby_bear.mul (c.from_u64.ensures ∙ eleven_is) c.square-2.ensures)
