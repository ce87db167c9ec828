use Rattle.std.proofs.Common.{◌≡◌, take}
use Rattle.algebra.specs.Nested.{lists}
use Rattle.p3_fri_pcs_transcript.specs.Counts.{counts_in_matrices}
use Rattle.p3_fri_pcs_transcript.proofs.pcs_transcript.counts.count_in_matrices.Given as goal

abbrev pub invariant-loop-points : goal.invariant-loop-points
invariant-loop-points g l = lists l.counts.items ≡ counts_in_matrices (take l.points-index l.matrices)
