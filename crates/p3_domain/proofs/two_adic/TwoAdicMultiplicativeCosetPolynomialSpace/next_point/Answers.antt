use Rattle.std.proofs.Common.{ap, ◌∙◌}
use Rattle.std.specs.Prelude.{Some}
use Rattle.p3_domain.proofs.Points.{next_point}
use Rattle.p3_domain.proofs.two_adic.TwoAdicMultiplicativeCosetPolynomialSpace.next_point.Goals as goal

pub returns-clause-next : goal.returns-clause-next
returns-clause-next g c i at =
    let K = g.EF.Field.ops in
    let extension = g.EF.ExtensionField in
    let self = c.args.self.now in
    ap Some (next_point g.F.Field.ops g.met.F.Field.laws K g.met.EF.Field.laws extension.lift
    g.met.EF.ExtensionField.lift_law g.F.TwoAdicField.TWO_ADICITY g.F.TwoAdicField.root
    g.met.F.TwoAdicField.roots_law self.log_size self.within_two_adicity self.shift i c.args.point
    c.scale.result at (c.scale.ensures
    ∙ ap (λ x. K.mul c.args.point (extension.lift x)) c.two_adic_generator-generator.ensures))
