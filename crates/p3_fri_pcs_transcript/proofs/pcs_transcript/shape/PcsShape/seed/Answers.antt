use Rattle.p3_fri_pcs_transcript.specs.Steps.{pcs_stream}
use Rattle.p3_fri_pcs_transcript.proofs.pcs_transcript.shape.PcsShape.seed.Goals as goal

pub returns-clause-stream : goal.returns-clause-stream
unfolding pcs_stream
returns-clause-stream g c = rw c.in_ok-separator.ensures at c.seed.ensures.stream
