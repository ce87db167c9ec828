use Rattle.std.proofs.Common.{◌^◌, ap, ap₂, ◌∙◌}
use Rattle.algebra.specs.Field.{sub, pow}
use Rattle.algebra.proofs.Lifting.{homomorphism-inv}
use Rattle.p3_field_core.proofs.coset.TwoAdicMultiplicativeCoset.vanishing_poly_at_point.Goals as goal

pub returns : goal.returns
returns g c =
    let K = g.E.Field.ops in
    let coset = c.args.self.now in
    let field = g.met.E.Field in
    let inverse = c.inverse.ensures in
    let lifted =
    homomorphism-inv g.F.Field.ops K g.E.ExtensionField.lift g.met.F.Field.laws field.laws
    g.met.E.ExtensionField.lift_law coset.shift coset.nonzero in
    field.sub_law c.exp_power_of_2.result c.ONE.result c.sub.result c.sub.ensures
    ∙ ap₂ (λ x y. sub K x y)
    (c.exp_power_of_2.ensures
    ∙ ap (λ x. pow K x (2 ^ coset.log_size))
    (c.scale.ensures ∙ ap (λ x. K.mul c.args.point x)
    (ap g.E.ExtensionField.lift inverse ∙ lifted)))
    (c.ONE.ensures ∙ field.one_law)
