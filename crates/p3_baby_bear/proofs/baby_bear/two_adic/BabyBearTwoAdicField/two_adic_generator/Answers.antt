use Rattle.std.proofs.Common.{◌-◌, ◌^◌, ap, ◌∙◌}
use Rattle.algebra.specs.Field.{pow}
use Rattle.p3_baby_bear.specs.BabyBear.{baby_bear}
use Rattle.p3_baby_bear.specs.BabyBearLaws.{root_is}
use Rattle.p3_baby_bear.proofs.baby_bear.two_adic.BabyBearTwoAdicField.two_adic_generator.Goals as goal

pub returns : goal.returns
returns c =
    c.exp_power_of_2.ensures ∙ ap
    (λ x. pow baby_bear x (2 ^ (27 - c.args.bits))) c.from_number.ensures ∙ root_is c.args.bits
