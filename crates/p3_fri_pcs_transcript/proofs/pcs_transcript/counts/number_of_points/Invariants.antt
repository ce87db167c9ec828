use Rattle.std.proofs.Common.{◌≡◌, ◌+◌, ◌-◌, ◌≤◌, ◌^◌, min, drop, length}
use Rattle.algebra.specs.Nested.{nested}
use Rattle.p3_fri_pcs_transcript.specs.Steps.{widths}
use Rattle.p3_fri_pcs_transcript.proofs.pcs_transcript.counts.number_of_points.Given as goal

abbrev pub invariant-loop-matrices : goal.invariant-loop-matrices
invariant-loop-matrices l =
    (l.total ≤ 2 ^ 64 - 1)
    × (min (l.total + length (widths (nested (drop l.matrices-index l.commitments)))) (2 ^ 64 - 1) ≡ min (length (widths (nested l.commitments))) (2 ^ 64 - 1))
