use Rattle.algebra.proofs.Points.{lifted_roots}
use Rattle.p3_converse.proofs.laws.lifted_roots_law.Goals as goal

pub returns : goal.returns
returns g c =
    lifted_roots g.F.Field.ops g.EF.Field.ops g.EF.ExtensionField.lift g.met.F.Field.laws
    g.met.EF.Field.laws g.met.EF.ExtensionField.lift_law g.F.TwoAdicField.TWO_ADICITY
    g.F.TwoAdicField.root g.met.F.TwoAdicField.roots_law
