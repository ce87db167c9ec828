use Rattle.std.proofs.Common.{◌≡◌, take}
use Rattle.algebra.specs.Nested.{lists}
use Rattle.p3_fri_pcs_transcript.proofs.pcs_transcript.counts.clone_matrices.Given as goal

abbrev pub invariant-loop-points : goal.invariant-loop-points
invariant-loop-points l = lists l.counts.items ≡ lists (take l.points-index l.matrices)
