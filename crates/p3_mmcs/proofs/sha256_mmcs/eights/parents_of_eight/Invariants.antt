use Rattle.std.proofs.Common.{◌≡◌, ◌<◌, ℕ, [], ◌∷◌, length, slice_index_or}
use Rattle.algebra.specs.Nested.{lists}
use Rattle.sha256_lanes.specs.Lanes.{message_of}
use Rattle.p3_mmcs.specs.Siblings.{children_of}
use Rattle.p3_mmcs.proofs.sha256_mmcs.eights.parents_of_eight.Given as goal

abbrev pub invariant-loop-lane : goal.invariant-loop-lane
invariant-loop-lane l = record {
  len : length l.messages ≡ 520;
  each : (k : ℕ) → k < l.lane → message_of 65 k l.messages ≡ 1 ∷ children_of
      (slice_index_or l.indices k 0) (slice_index_or l.digests k [])
      (slice_index_or (slice_index_or (lists l.paths) k []) l.level []);
}
