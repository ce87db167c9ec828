use Rattle.std.proofs.Common.{refl}
use Rattle.p3_field_tests.proofs.index.takes_logarithms.Goals as goal

pub log2_strict_usize-greatest-requires : goal.log2_strict_usize-greatest-requires
log2_strict_usize-greatest-requires g c = record { power_of_two = (63, refl) }
