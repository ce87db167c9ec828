use Rattle.p3_fri_transcript.specs.Steps.{fri_stream}
use Rattle.p3_fri_transcript.proofs.transcript.shape.FriShape.seed.Goals as goal

pub returns-clause-stream : goal.returns-clause-stream
unfolding fri_stream
returns-clause-stream g c = rw c.in_ok-separator.ensures at c.seed.ensures.stream
