use Rattle.p3_domain.proofs.Points.{zeros}
use Rattle.p3_domain.proofs.two_adic.TwoAdicMultiplicativeCosetPolynomialSpace.vanishing_poly_at_point.Goals as goal

pub returns-clause-zeros : goal.returns-clause-zeros
returns-clause-zeros g c =
    let self = c.args.self.now in
    zeros g.F.Field.ops g.met.F.Field.laws g.EF.Field.ops g.met.EF.Field.laws
    g.EF.ExtensionField.lift g.met.EF.ExtensionField.lift_law g.F.TwoAdicField.TWO_ADICITY
    g.F.TwoAdicField.root g.met.F.TwoAdicField.roots_law self.log_size self.within_two_adicity
    self.shift self.nonzero c.args.point c.vanishing_poly_at_point.result
    c.vanishing_poly_at_point.ensures
