use Rattle.p3_mmcs_binding.proofs.Ways.{collide}
use Rattle.p3_mmcs_binding.proofs.laws.collisions_law.Goals as goal

pub returns : goal.returns
returns g c commitment dims index set path other other_path first second differ =
    collide g.T.ElementBytes.bytes g.T.ElementBytes.LEN g.met.T.ElementBytes.bytes_length
    g.met.T.ElementBytes.bytes_injective commitment dims index set path other other_path first
    second differ
