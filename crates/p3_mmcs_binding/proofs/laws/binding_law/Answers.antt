use Rattle.p3_mmcs_binding.proofs.Ways.{same_sets}
use Rattle.p3_mmcs_binding.proofs.laws.binding_law.Goals as goal

pub returns : goal.returns
returns g c commitment dims indices sets paths others other_paths first second none =
    same_sets g.T.ElementBytes.bytes g.T.ElementBytes.LEN g.met.T.ElementBytes.bytes_length
    g.met.T.ElementBytes.bytes_injective commitment dims indices sets paths others other_paths first
    second none
