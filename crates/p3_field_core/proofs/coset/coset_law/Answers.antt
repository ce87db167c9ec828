use Rattle.p3_field_core.proofs.Cosets.{vanishes_exactly}
use Rattle.p3_field_core.proofs.coset.coset_law.Goals as goal

pub returns : goal.returns
returns g c =
    vanishes_exactly g.F.Field.ops g.met.F.Field.laws g.F.TwoAdicField.TWO_ADICITY
    g.F.TwoAdicField.root g.met.F.TwoAdicField.roots_law c.args.coset.now.log_size
    c.args.coset.now.within_two_adicity c.args.coset.now.shift c.args.coset.now.nonzero
