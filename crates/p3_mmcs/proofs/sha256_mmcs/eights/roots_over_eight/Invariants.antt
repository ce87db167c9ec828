use Rattle.std.proofs.Common.{◌≡◌, ◌<◌, ℕ, [], drop, slice_index_or}
use Rattle.algebra.specs.Nested.{lists}
use Rattle.p3_mmcs.specs.Tree.{climb}
use Rattle.p3_mmcs.proofs.sha256_mmcs.eights.roots_over_eight.Given as goal

abbrev pub invariant-loop-level : goal.invariant-loop-level
invariant-loop-level l = (k : ℕ) → k < 8
    → climb (slice_index_or l.places k 0) (slice_index_or l.tops k [])
    (drop l.level (slice_index_or (lists l.paths) k []))
    ≡ climb (slice_index_or l.indices k 0) (slice_index_or l.fn.digests k [])
    (slice_index_or (lists l.paths) k [])
