use Rattle.std.proofs.Common.{◌≡◌, take}
use Rattle.algebra.specs.Nested.{nested}
use Rattle.p3_fri_pcs_transcript.proofs.pcs_transcript.counts.clone_counts.Given as goal

abbrev pub invariant-loop-matrices : goal.invariant-loop-matrices
invariant-loop-matrices l = nested l.counts.items ≡ nested (take l.matrices-index l.commitments)
