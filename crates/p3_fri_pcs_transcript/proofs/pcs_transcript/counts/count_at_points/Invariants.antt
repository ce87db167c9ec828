use Rattle.std.proofs.Common.{◌≡◌, take}
use Rattle.p3_fri_pcs_transcript.specs.Counts.{counts_at_points}
use Rattle.p3_fri_pcs_transcript.proofs.pcs_transcript.counts.count_at_points.Given as goal

abbrev pub invariant-loop-values : goal.invariant-loop-values
invariant-loop-values g l = l.counts.items ≡ counts_at_points (take l.values-index l.points)
