use Rattle.std.proofs.Common.{refl}
use Rattle.p3_field_tests.proofs.index.reverses_slices.Goals as goal

pub reverse_slice_index_bits-requires-3 : goal.reverse_slice_index_bits-requires-3
reverse_slice_index_bits-requires-3 g c = record { power_of_two = (3, refl) }
