use Rattle.std.proofs.Common.{◌-◌, ◌^◌, ap, ◌∙◌}
use Rattle.algebra.specs.Field.{pow}
use Rattle.p3_koala_bear.specs.KoalaBear.{koala_bear}
use Rattle.p3_koala_bear.specs.KoalaBearLaws.{root_is}
use Rattle.p3_koala_bear.proofs.koala_bear.two_adic.KoalaBearTwoAdicField.two_adic_generator.Goals as goal

pub returns : goal.returns
returns c =
    c.exp_power_of_2.ensures ∙ ap
    (λ x. pow koala_bear x (2 ^ (24 - c.args.bits))) c.from_number.ensures ∙ root_is c.args.bits
