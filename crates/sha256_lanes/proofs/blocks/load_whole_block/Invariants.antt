use Rattle.std.proofs.Common.{◌≡◌, ℕ, ◌+◌, ◌*◌, ◌<◌, length, slice_index}
use Rattle.sha2.specs.Sha256.{word_at}
use Rattle.sha256_lanes.specs.Lanes.{message_of}
use Rattle.sha256_lanes.specs.Words.{lane_words}
use Rattle.sha256_lanes.proofs.blocks.load_whole_block.Given as goal

abbrev pub invariant-words : goal.invariant-words
invariant-words l = (length l.window ≡ 16) × ((lane j : ℕ) → lane < 8 → j < l.k
    → slice_index (lane_words l.window lane) j ≡ word_at (message_of l.len lane l.messages) (64 * l.n + 4 * j))
