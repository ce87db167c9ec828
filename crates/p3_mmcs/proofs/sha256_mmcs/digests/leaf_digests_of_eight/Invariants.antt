use Rattle.std.proofs.Common.{◌≡◌, ◌+◌, ◌*◌, ◌<◌, ℕ, ◌∷◌, length}
use Rattle.std.specs.List.{flat_map}
use Rattle.sha256_lanes.specs.Lanes.{message_of}
use Rattle.p3_mmcs.specs.Batch.{opened_rows}
use Rattle.p3_mmcs.specs.Tree.{row_bytes}
use Rattle.p3_mmcs.proofs.sha256_mmcs.digests.leaf_digests_of_eight.Given as goal

abbrev pub invariant-loop-lane : goal.invariant-loop-lane
invariant-loop-lane g l = record {
  len : length l.messages ≡ 8 * l.len;
  each : (k : ℕ) → k < l.lane → message_of l.len k l.messages
      ≡ 0 ∷ flat_map (row_bytes g.T.ElementBytes.bytes) (opened_rows l.matrices (l.first + k));
}
