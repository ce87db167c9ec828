use Rattle.p3_fri_masks.proofs.KeptValues.{points_halved, masked_columns_keep_values, padded_columns_keep_values}
use Rattle.p3_fri_masks.proofs.laws.values_kept_law.Goals as goal

pub returns-clause-halved : goal.returns-clause-halved
returns-clause-halved g c =
    points_halved g.F.Field.ops g.met.F.Field.laws g.F.TwoAdicField.TWO_ADICITY g.F.TwoAdicField.root
    g.met.F.TwoAdicField.roots_law

pub returns-clause-masked : goal.returns-clause-masked
returns-clause-masked g c =
    masked_columns_keep_values g.F.Field.ops g.met.F.Field.laws g.F.TwoAdicField.TWO_ADICITY
    g.F.TwoAdicField.root g.met.F.TwoAdicField.roots_law

pub returns-clause-padded : goal.returns-clause-padded
returns-clause-padded g c =
    padded_columns_keep_values g.F.Field.ops g.met.F.Field.laws g.F.TwoAdicField.TWO_ADICITY
    g.F.TwoAdicField.root g.met.F.TwoAdicField.roots_law
