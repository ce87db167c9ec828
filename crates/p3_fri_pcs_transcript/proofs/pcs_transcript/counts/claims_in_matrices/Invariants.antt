use Rattle.std.proofs.Common.{◌≡◌, take}
use Rattle.algebra.specs.Nested.{lists}
use Rattle.p3_fri_pcs_transcript.specs.Counts.{claimed_in_matrices}
use Rattle.p3_fri_pcs_transcript.proofs.pcs_transcript.counts.claims_in_matrices.Given as goal

abbrev pub invariant-loop-matrix : goal.invariant-loop-matrix
invariant-loop-matrix g l = lists l.counts.items ≡ claimed_in_matrices (take l.matrix-index l.matrices)
