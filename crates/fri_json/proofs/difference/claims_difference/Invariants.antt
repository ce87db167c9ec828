use Rattle.std.proofs.Common.{◌<◌, ℕ, slice_index_or}
use Rattle.fri_json.specs.Difference.{IsExpectedBatch}
use Rattle.fri_json.proofs.difference.claims_difference.Given as goal

abbrev pub invariant-loop-index : goal.invariant-loop-index
invariant-loop-index l = (k : ℕ) → k < l.index → (x : _) (y : _)
    → IsExpectedBatch (slice_index_or l.claims k x) (slice_index_or l.expected k y)
