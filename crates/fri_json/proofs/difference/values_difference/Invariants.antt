use Rattle.std.proofs.Common.{◌≡◌, ◌<◌, ℕ, slice_index_or}
use Rattle.fri_json.proofs.difference.values_difference.Given as goal

abbrev pub invariant-loop-index : goal.invariant-loop-index
invariant-loop-index l = (k : ℕ) (x y : _) → k < l.index
    → (slice_index_or l.values k x).items ≡ (slice_index_or l.expected k y).items
