use Rattle.std.proofs.Common.{◌^◌, ap, ◌∙◌, sym}
use Rattle.algebra.specs.Field.{pow}
use Rattle.algebra.proofs.PointTest.{point_test}
use Rattle.p3_fri_openings.proofs.checks.is_in_evaluation_domain.Goals as goal

pub returns : goal.returns
returns g c =
    let k = c.args.log_height in
    let base = g.met.F.Field in
    let ext = g.met.EF.Field in
    let lift = g.EF.ExtensionField.lift in
    let tested = point_test g.F.Field.ops g.EF.Field.ops lift base.laws ext.laws
    g.met.EF.ExtensionField.lift_law g.F.TwoAdicField.TWO_ADICITY g.F.TwoAdicField.root
    g.met.F.TwoAdicField.roots_law g.F.Field.GENERATOR base.generator_law k
    c.requires.within_two_adicity c.args.point in
    let left = c.exp_power_of_2.ensures in
    let right = c.from_base.ensures
    ∙ ap lift (c.exp_power_of_2-shift_power.ensures ∙ ap (λ x. pow g.F.Field.ops x (2 ^ k)) c.GENERATOR.ensures) in (
      λ t. tested.point.0 (sym left ∙ c.are_equal.ensures.0 t ∙ right),
      λ on. c.are_equal.ensures.1 (left ∙ tested.point.1 on ∙ sym right),
    )
