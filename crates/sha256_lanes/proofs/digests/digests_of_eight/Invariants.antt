use Rattle.std.proofs.Common.{◌≡◌, ℕ, ◌<◌}
use Rattle.sha2.specs.Sha256.{hash_after, initial_hash_256, padded_message}
use Rattle.sha256_lanes.specs.Lanes.{message_of}
use Rattle.sha256_lanes.specs.Hash.{lane_hash}
use Rattle.sha256_lanes.proofs.digests.digests_of_eight.Given as goal

abbrev pub invariant-whole : goal.invariant-whole
invariant-whole l = (lane : ℕ) → lane < 8
    → lane_hash l.hash lane ≡ hash_after initial_hash_256 (padded_message (message_of l.len lane l.messages)) l.n

abbrev pub invariant-last : goal.invariant-last
invariant-last l = (lane : ℕ) → lane < 8
    → lane_hash l.hash lane ≡ hash_after initial_hash_256 (padded_message (message_of l.len lane l.messages)) l.n
