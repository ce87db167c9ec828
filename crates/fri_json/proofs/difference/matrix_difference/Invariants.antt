use Rattle.std.proofs.Common.{◌<◌, ℕ, slice_index_or}
use Rattle.fri_json.specs.Difference.{IsExpectedPoint}
use Rattle.fri_json.proofs.difference.matrix_difference.Given as goal

abbrev pub invariant-loop-index : goal.invariant-loop-index
invariant-loop-index l = (k : ℕ) → k < l.index → (x : _) (y : _)
    → IsExpectedPoint (slice_index_or l.claims.points.items k x)
    (slice_index_or l.expected.points.items k y)
