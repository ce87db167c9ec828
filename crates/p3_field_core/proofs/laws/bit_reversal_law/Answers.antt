use Rattle.p3_field_core.proofs.IndexReversal.{bit_reversed-bit_reversed}
use Rattle.p3_field_core.proofs.laws.bit_reversal_law.Goals as goal

pub returns : goal.returns
returns g c k xs e = bit_reversed-bit_reversed k xs e
