use Rattle.std.proofs.Common.{◌≡◌, ◌^◌, IsTrue, subst, sym, ap₂, ◌∙◌}
use Rattle.p3_uni_stark_identity.proofs.identity.identity_holds.Goals as goal

pub returns : goal.returns
returns g c =
    let K = g.EF.Field.ops in
    let s = c.selectors_at_point-selectors in
    let at = s.ensures in
    let sum = c.in_ok-sum.ensures
    (g.EF.ExtensionField.lift (g.F.TwoAdicField.root c.args.log_size)) (2 ^ c.args.log_size)
    c.args.challenges.zeta at in
    let product = g.met.EF.Field.mul_law c.in_ok-sum.sum s.result.inv_vanishing c.mul.result
    c.mul.ensures
    ∙ ap₂ K.mul sum at.vanishing in
    let law = g.met.EF.Field.eq_law c.mul.result c.in_ok-quotient.quotient in (
      λ h. sym product ∙ law.0 (subst IsTrue c.eq.ensures h) ∙ c.in_ok-quotient.ensures,
      λ h. subst IsTrue (sym c.eq.ensures) (law.1 (product ∙ h ∙ sym c.in_ok-quotient.ensures)),
    )
