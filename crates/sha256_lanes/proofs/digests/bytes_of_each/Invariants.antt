use Rattle.std.proofs.Common.{◌≡◌, ℕ, ◌<◌, [], length, slice_index_or}
use Rattle.sha2.specs.Sha256.{digest_bytes}
use Rattle.sha256_lanes.specs.Hash.{lane_hash}
use Rattle.sha256_lanes.proofs.digests.bytes_of_each.Given as goal

abbrev pub invariant-lanes : goal.invariant-lanes
invariant-lanes l = (length l.digests ≡ 8) × ((lane : ℕ) → lane < l.l
    → slice_index_or l.digests lane [] ≡ digest_bytes (lane_hash l.fn.hash lane) 8)
