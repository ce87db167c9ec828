use Rattle.std.proofs.Common.{◌≡◌, take}
use Rattle.algebra.specs.Nested.{nested}
use Rattle.p3_fri_pcs_transcript.specs.Counts.{counts_of_values}
use Rattle.p3_fri_pcs_transcript.proofs.pcs_transcript.counts.count_values.Given as goal

abbrev pub invariant-loop-matrices : goal.invariant-loop-matrices
invariant-loop-matrices g l = nested l.counts.items ≡ counts_of_values (take l.matrices-index l.commitments)
