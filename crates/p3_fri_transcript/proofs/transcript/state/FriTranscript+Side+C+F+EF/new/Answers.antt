use Rattle.std.proofs.Common.{◌∙◌}
use Rattle.p3_fri_transcript.specs.Steps.{fri_steps}
use Rattle.p3_fri_transcript.proofs.transcript.state.FriTranscript+Side+C+F+EF.new.Goals as goal

pub returns-clause-rounds : goal.returns-clause-rounds
unfolding fri_steps
returns-clause-rounds g c = c.start.ensures.steps ∙ c.in_ok-seed.ensures.turns
