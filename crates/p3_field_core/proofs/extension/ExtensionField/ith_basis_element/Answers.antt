use Rattle.std.proofs.Common.{◌∙◌}
use Rattle.p3_field_core.specs.Basis.{unit_vector}
use Rattle.p3_field_core.proofs.Bases.{basis_element_is}
use Rattle.p3_field_core.proofs.extension.ExtensionField.ith_basis_element.Goals as goal

pub returns : goal.returns
returns g c =
    let E = g.Self.ExtensionField in
    let law = g.met.Self.ExtensionField in
    basis_element_is g.F.Field.ops g.Self.Field.ops g.met.Self.Field.laws.ring E.lift law.lift_law E.DIMENSION E.coefficients E.of_coefficients law.of_coefficients_law
    (λ k. E.of_coefficients (unit_vector g.F.Field.ops E.DIMENSION k)) law.basis_law
    c.ZERO.result c.with_coefficient.result c.ONE.result c.args.index c.requires.below_dimension
    (c.ZERO.ensures ∙ g.met.Self.Field.zero_law) (c.ONE.ensures ∙ g.met.F.Field.one_law) c.with_coefficient.ensures
