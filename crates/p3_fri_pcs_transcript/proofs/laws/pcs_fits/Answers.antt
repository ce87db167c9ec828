use Rattle.std.proofs.Common.{arith}
use Rattle.p3_fri_pcs_transcript.proofs.PcsSeed.{shape_fits}
use Rattle.p3_fri_pcs_transcript.proofs.laws.pcs_fits.Goals as goal

pub returns : goal.returns
returns c = shape_fits c.args.shape.now c.as_slice.result.now c.as_slice.ensures.value c.commitments_fit.ensures (omega arith)
