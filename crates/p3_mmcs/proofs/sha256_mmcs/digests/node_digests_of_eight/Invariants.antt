use Rattle.std.proofs.Common.{◌≡◌, ◌+◌, ◌*◌, ◌<◌, ℕ, [], ◌∷◌, ◌++◌, length, slice_index_or}
use Rattle.sha256_lanes.specs.Lanes.{message_of}
use Rattle.p3_mmcs.proofs.sha256_mmcs.digests.node_digests_of_eight.Given as goal

abbrev pub invariant-loop-lane : goal.invariant-loop-lane
invariant-loop-lane l = record {
  len : length l.messages ≡ 520;
  each : (k : ℕ) → k < l.lane → message_of 65 k l.messages
      ≡ 1 ∷ slice_index_or l.children (2 * k) [] ++ slice_index_or l.children (2 * k + 1) [];
}
