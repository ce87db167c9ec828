use Rattle.p3_fri_pcs_transcript.proofs.PcsReplays.{replays_as_shown}
use Rattle.p3_fri_pcs_transcript.proofs.laws.pcs_shown_law.Goals as goal

pub returns : goal.returns
returns g c = replays_as_shown
