use Rattle.std.proofs.Common.{◌≡◌, ◌+◌, ◌-◌, ◌≤◌, ◌^◌, min, drop, length}
use Rattle.algebra.specs.Nested.{lists, joined}
use Rattle.p3_fri_pcs_transcript.proofs.pcs_transcript.counts.points_in_matrices.Given as goal

abbrev pub invariant-loop-points : goal.invariant-loop-points
invariant-loop-points l =
    (l.total ≤ 2 ^ 64 - 1)
    × (min (l.total + length (joined (lists (drop l.points-index l.matrices)))) (2 ^ 64 - 1)
    ≡ min (length (joined (lists l.matrices))) (2 ^ 64 - 1))
