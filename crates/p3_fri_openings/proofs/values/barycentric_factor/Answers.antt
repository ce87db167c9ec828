use Rattle.std.proofs.Common.{ap, ap₂, sym, ◌∙◌}
use Rattle.algebra.specs.Field.{multiple}
use Rattle.algebra.specs.Cosets.{vanishing}
use Rattle.algebra.proofs.Barycentric.{two_power_nonzero}
use Rattle.p3_fri_openings.proofs.values.barycentric_factor.Goals as goal

pub inverse-requires : goal.inverse-requires
inverse-requires g c =
    record { nonzero = λ e. two_power_nonzero g.EF.Field.ops g.met.EF.Field.laws c.args.log_size (ap (multiple g.EF.Field.ops) (sym c.size.ensures) ∙ sym c.from_u64-size.ensures ∙ e) }

pub returns : goal.returns
returns g c =
    let K = g.EF.Field.ops in
    g.met.EF.Field.mul_law _ _ c.mul.result c.mul.ensures
    ∙ ap₂ (λ a b. K.mul a b)
    (c.vanishing_poly_at_point.ensures
    ∙ ap (λ s. vanishing K (g.EF.ExtensionField.lift s) c.args.log_size c.args.point) c.GENERATOR.ensures)
    (c.inverse.ensures ∙ ap (λ n. K.inv n) (c.from_u64-size.ensures ∙ ap (multiple K) c.size.ensures))
