use Rattle.std.proofs.Common.{◌-◌, ◌^◌, ap, ◌∙◌}
use Rattle.algebra.specs.Field.{pow}
use Rattle.p3_goldilocks.specs.Goldilocks.{goldilocks}
use Rattle.p3_goldilocks.specs.GoldilocksLaws.{root_is}
use Rattle.p3_goldilocks.proofs.goldilocks.two_adic.GoldilocksTwoAdicField.two_adic_generator.Goals as goal

pub returns : goal.returns
returns c =
    c.exp_power_of_2.ensures ∙ ap
    (λ x. pow goldilocks x (2 ^ (32 - c.args.bits))) c.from_number.ensures ∙ root_is c.args.bits
