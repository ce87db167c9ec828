use Rattle.p3_field_core.proofs.Cosets.{natural_distinct, reversed_distinct}
use Rattle.p3_field_core.proofs.laws.distinct_points_law.Goals as goal

pub returns-clause-natural : goal.returns-clause-natural
returns-clause-natural g c k shift b n =
    natural_distinct g.F.Field.ops g.met.F.Field.laws g.F.TwoAdicField.TWO_ADICITY
    g.F.TwoAdicField.root g.met.F.TwoAdicField.roots_law k b shift n

pub returns-clause-reversed : goal.returns-clause-reversed
returns-clause-reversed g c k shift b n =
    reversed_distinct g.F.Field.ops g.met.F.Field.laws g.F.TwoAdicField.TWO_ADICITY
    g.F.TwoAdicField.root g.met.F.TwoAdicField.roots_law k b shift n
