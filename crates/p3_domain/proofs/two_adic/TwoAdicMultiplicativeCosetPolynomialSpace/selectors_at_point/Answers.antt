use Rattle.std.proofs.Common.{◌≡◌, ◌^◌, sym, ap, subst, ◌∙◌}
use Rattle.stark_algebra.specs.Selectors.{zerofier}
use Rattle.p3_uni_stark_identity.specs.Selectors.{AreSelectorsAt}
use Rattle.p3_domain.proofs.Points.{lifted_over}
use Rattle.p3_domain.proofs.two_adic.TwoAdicMultiplicativeCosetPolynomialSpace.selectors_at_point.Goals as goal

pub selectors_at_point-requires-clause-off : goal.selectors_at_point-requires-clause-off
selectors_at_point-requires-clause-off g c = λ e.
    let self = c.args.self.now in
    c.requires.off (ap (λ y. zerofier g.EF.Field.ops (2 ^ self.log_size) y)
    (sym (lifted_over g.F.Field.ops g.met.F.Field.laws g.EF.Field.ops g.met.EF.Field.laws
    g.EF.ExtensionField.lift g.met.EF.ExtensionField.lift_law self.shift self.nonzero c.args.point
    c.scale-unshifted.result c.inverse.result c.inverse.ensures c.scale-unshifted.ensures)) ∙ e)

pub returns : goal.returns
returns g c =
    let self = c.args.self.now in
    let K = g.EF.Field.ops in
    record {
      selectors = subst (λ y. AreSelectorsAt K
          (g.EF.ExtensionField.lift (g.F.TwoAdicField.root self.log_size)) (2 ^ self.log_size) y
          c.selectors_at_point.result)
          (lifted_over g.F.Field.ops g.met.F.Field.laws K g.met.EF.Field.laws
          g.EF.ExtensionField.lift g.met.EF.ExtensionField.lift_law self.shift self.nonzero
          c.args.point c.scale-unshifted.result c.inverse.result c.inverse.ensures
          c.scale-unshifted.ensures)
          c.selectors_at_point.ensures;
    }
