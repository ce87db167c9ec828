use Rattle.p3_fri_masks.proofs.Recombination.{masked_chunks_recombine}
use Rattle.p3_fri_masks.proofs.quotient_laws.masked_quotients_law.Goals as goal

pub returns : goal.returns
returns g c = masked_chunks_recombine g.F.Field.ops g.EF.Field.ops g.EF.ExtensionField.lift
    g.met.F.Field.laws g.met.EF.Field.laws g.met.EF.ExtensionField.lift_law
    g.F.TwoAdicField.TWO_ADICITY g.F.TwoAdicField.root g.met.F.TwoAdicField.roots_law
