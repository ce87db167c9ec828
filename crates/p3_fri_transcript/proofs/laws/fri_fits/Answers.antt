use Rattle.std.proofs.Common.{arith}
use Rattle.p3_fri_transcript.proofs.FriSeed.{shape_fits}
use Rattle.p3_fri_transcript.proofs.laws.fri_fits.Goals as goal

pub returns : goal.returns
returns c =
    shape_fits c.args.shape.now c.as_slice.result.now c.as_slice.ensures.value c.points_fit.ensures.1
    (omega arith) (omega arith) (omega arith) (omega arith) (omega arith) (omega arith) (omega arith)
