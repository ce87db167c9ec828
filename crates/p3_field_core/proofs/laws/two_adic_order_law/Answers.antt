use Rattle.p3_field_core.proofs.Orders.{root_order}
use Rattle.p3_field_core.proofs.laws.two_adic_order_law.Goals as goal

pub returns : goal.returns
returns g c =
    root_order g.F.Field.ops g.met.F.Field.laws g.F.TwoAdicField.TWO_ADICITY g.F.TwoAdicField.root
    g.met.F.TwoAdicField.roots_law
