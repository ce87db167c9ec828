use Rattle.algebra_tests.proofs.ValueAtZero.{values_at_zero}
use Rattle.algebra_tests.proofs.laws.value_at_zero_law.Goals as goal

pub returns : goal.returns
returns g c =
    values_at_zero g.F.Field.ops g.EF.Field.ops g.EF.ExtensionField.lift g.met.F.Field.laws g.met.EF.Field.laws
    g.met.EF.ExtensionField.lift_law g.F.TwoAdicField.TWO_ADICITY g.F.TwoAdicField.root g.met.F.TwoAdicField.roots_law
