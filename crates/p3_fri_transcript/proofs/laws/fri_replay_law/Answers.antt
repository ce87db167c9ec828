use Rattle.p3_fri_transcript.proofs.Events.{is_run_of_fri}
use Rattle.p3_fri_transcript.proofs.laws.fri_replay_law.Goals as goal

pub returns : goal.returns
returns g c = is_run_of_fri
