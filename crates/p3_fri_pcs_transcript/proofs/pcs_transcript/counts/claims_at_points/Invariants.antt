use Rattle.std.proofs.Common.{◌≡◌, take}
use Rattle.p3_fri_pcs_transcript.specs.Counts.{claimed_at_points}
use Rattle.p3_fri_pcs_transcript.proofs.pcs_transcript.counts.claims_at_points.Given as goal

abbrev pub invariant-loop-point : goal.invariant-loop-point
invariant-loop-point g l = l.counts.items ≡ claimed_at_points (take l.point-index l.points)
