use Rattle.std.proofs.Common.{ℕ, slice_index_or, map}
use Rattle.p3_field_core.specs.Basis.{unit_vector}
use Rattle.p3_domain.proofs.Recombined.{is_basis, polynomials_recombine, columns_recombine}
use Rattle.p3_domain.proofs.laws.split_domains_law.Goals as goal

pub returns-clause-polynomials : goal.returns-clause-polynomials
returns-clause-polynomials g c k d whole split =
    let space = g.D.PolynomialSpace in
    polynomials_recombine g.D.Val.Field.ops g.met.D.Val.Field.laws g.EF.Field.ops
    g.met.EF.Field.laws g.EF.ExtensionField.lift g.met.EF.ExtensionField.lift_law
    g.D.Val.TwoAdicField.TWO_ADICITY g.D.Val.TwoAdicField.root g.met.D.Val.TwoAdicField.roots_law
    (space.log_size c.args.domain.now) (g.met.D.PolynomialSpace.size_law c.args.domain.now)
    (space.shift c.args.domain.now) (g.met.D.PolynomialSpace.shift_law c.args.domain.now) k d whole
    (map space.log_size c.args.pieces.now) (map space.shift c.args.pieces.now) split

pub returns-clause-columns : goal.returns-clause-columns
returns-clause-columns g c k d whole split =
    let space = g.D.PolynomialSpace in
    let extension = g.EF.ExtensionField in
    let basis = λ (e : ℕ).
    extension.of_coefficients (unit_vector g.D.Val.Field.ops extension.DIMENSION e) in
    columns_recombine g.D.Val.Field.ops g.met.D.Val.Field.laws g.EF.Field.ops
    g.met.EF.Field.laws extension.lift g.met.EF.ExtensionField.lift_law
    g.D.Val.TwoAdicField.TWO_ADICITY g.D.Val.TwoAdicField.root g.met.D.Val.TwoAdicField.roots_law
    (space.log_size c.args.domain.now) (g.met.D.PolynomialSpace.size_law c.args.domain.now)
    (space.shift c.args.domain.now) (g.met.D.PolynomialSpace.shift_law c.args.domain.now) k d whole
    (map space.log_size c.args.pieces.now) (map space.shift c.args.pieces.now) split
    extension.DIMENSION basis extension.coefficients
    (is_basis g.EF.Field.ops g.met.EF.Field.laws extension.lift extension.DIMENSION basis
    (λ x e. slice_index_or (extension.coefficients x) e g.D.Val.Field.ops.zero)
    g.met.EF.ExtensionField.basis_law)
