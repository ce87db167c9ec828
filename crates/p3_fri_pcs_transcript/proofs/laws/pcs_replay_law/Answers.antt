use Rattle.p3_fri_pcs_transcript.proofs.Events.{is_run_of_pcs}
use Rattle.p3_fri_pcs_transcript.proofs.laws.pcs_replay_law.Goals as goal

pub returns : goal.returns
returns g c = is_run_of_pcs
