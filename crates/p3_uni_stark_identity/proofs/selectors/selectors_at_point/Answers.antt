use Rattle.std.proofs.Common.{◌≡◌, ◌^◌, ap, ap₂, ◌∙◌}
use Rattle.algebra.specs.Field.{sub}
use Rattle.stark_algebra.specs.Selectors.{zerofier}
use Rattle.p3_uni_stark_identity.proofs.Points.{generator_nonzero, off_first, off_last}
use Rattle.p3_uni_stark_identity.proofs.selectors.selectors_at_point.Goals as goal

pub inverse-last_point-requires : goal.inverse-last_point-requires
inverse-last_point-requires g c = record {
  nonzero = generator_nonzero g.F.Field.ops g.EF.Field.ops g.met.F.Field.laws g.met.EF.Field.laws
      g.EF.ExtensionField.lift g.met.EF.ExtensionField.lift_law g.F.TwoAdicField.TWO_ADICITY
      g.F.TwoAdicField.root g.met.F.TwoAdicField.roots_law c.args.log_size
      c.requires.within_two_adicity c.from_base-generator.result
      (c.from_base-generator.ensures
      ∙ ap (λ x. g.EF.ExtensionField.lift x) c.two_adic_generator.ensures);
}

pub inverse-requires : goal.inverse-requires
inverse-requires g c = record {
  nonzero = off_first g.F.Field.ops g.EF.Field.ops g.met.F.Field.laws g.met.EF.Field.laws
      g.EF.ExtensionField.lift g.met.EF.ExtensionField.lift_law g.F.TwoAdicField.TWO_ADICITY
      g.F.TwoAdicField.root g.met.F.TwoAdicField.roots_law c.args.log_size
      c.requires.within_two_adicity c.args.point c.sub-from_first.result c.requires.off
      (g.met.EF.Field.sub_law c.args.point c.ONE-2.result c.sub-from_first.result
      c.sub-from_first.ensures
      ∙ ap (λ x. sub g.EF.Field.ops c.args.point x) (c.ONE-2.ensures ∙ g.met.EF.Field.one_law));
}

pub inverse-requires-2 : goal.inverse-requires-2
inverse-requires-2 g c = record {
  nonzero = off_last g.F.Field.ops g.EF.Field.ops g.met.F.Field.laws g.met.EF.Field.laws
      g.EF.ExtensionField.lift g.met.EF.ExtensionField.lift_law g.F.TwoAdicField.TWO_ADICITY
      g.F.TwoAdicField.root g.met.F.TwoAdicField.roots_law c.args.log_size
      c.requires.within_two_adicity c.args.point c.sub-from_last.result c.requires.off
      (g.met.EF.Field.sub_law c.args.point c.inverse-last_point.result c.sub-from_last.result
      c.sub-from_last.ensures
      ∙ ap (λ x. sub g.EF.Field.ops c.args.point x) (c.inverse-last_point.ensures
      ∙ ap g.EF.Field.ops.inv (c.from_base-generator.ensures
      ∙ ap (λ x. g.EF.ExtensionField.lift x) c.two_adic_generator.ensures)));
}

pub returns : goal.returns
returns g c =
    let K = g.EF.Field.ops in
    let field = g.met.EF.Field in
    let z = c.args.point in
    let vanishing = field.sub_law c.exp_power_of_2.result c.ONE.result c.sub-vanishing.result
    c.sub-vanishing.ensures
    ∙ ap₂ (λ x y. sub K x y) c.exp_power_of_2.ensures (c.ONE.ensures ∙ field.one_law) in
    let first = field.sub_law z c.ONE-2.result c.sub-from_first.result c.sub-from_first.ensures
    ∙ ap (λ x. sub K z x) (c.ONE-2.ensures ∙ field.one_law) in
    let last = field.sub_law z c.inverse-last_point.result c.sub-from_last.result
    c.sub-from_last.ensures
    ∙ ap (λ x. sub K z x) (c.inverse-last_point.ensures ∙ ap K.inv (c.from_base-generator.ensures
    ∙ ap (λ x. g.EF.ExtensionField.lift x) c.two_adic_generator.ensures)) in
    record {
      first = field.mul_law c.sub-vanishing.result c.inverse.result c.mul.result c.mul.ensures
          ∙ ap₂ K.mul vanishing (c.inverse.ensures ∙ ap K.inv first);
      last = field.mul_law c.sub-vanishing.result c.inverse-2.result c.mul-2.result c.mul-2.ensures
          ∙ ap₂ K.mul vanishing (c.inverse-2.ensures ∙ ap K.inv last);
      transition = last;
      vanishing = c.inverse-3.ensures ∙ ap K.inv vanishing;
    }
