use Rattle.std.proofs.Common.{arith}
use Rattle.fri_soundness_error.proofs.Rooms.{below_first}
use Rattle.fri_soundness_error.proofs.soundness.errors_of_batches.Goals as goal

pub error_of_batch-requires-clause-below : goal.error_of_batch-requires-clause-below
error_of_batch-requires-clause-below c = omega (
  arith,
  c.requires.tallest,
  below_first c.args.heights.now c.requires.falling c.loop-i.i c.loop-i-test.true,
)
