use Rattle.std.proofs.Common.{◌<◌, ℕ, slice_index_or}
use Rattle.fri_json.specs.Difference.{IsExpectedMatrix}
use Rattle.fri_json.proofs.difference.batch_difference.Given as goal

abbrev pub invariant-loop-index : goal.invariant-loop-index
invariant-loop-index l = (k : ℕ) → k < l.index → (x : _) (y : _)
    → IsExpectedMatrix (slice_index_or l.claims.matrices.items k x)
    (slice_index_or l.expected.matrices.items k y)
