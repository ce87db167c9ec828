use Rattle.p3_fri_pow.proofs.NoBits.{no_bits}
use Rattle.p3_fri_pow.proofs.laws.no_bits_law.Goals as goal

pub returns : goal.returns
returns g c = no_bits
