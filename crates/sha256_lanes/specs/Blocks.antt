-- Blocks of padded messages.
use Rattle.std.specs.Prelude.{◌≡◌, ◌<◌, ◌≤◌, ◌+◌, ◌-◌, ◌*◌, ◌/◌, ◌%◌, ℕ, List, take, drop}
use Rattle.std.specs.Prelude.{slice_index}
use Rattle.sha2.specs.Sha256.{padding}

-- block `n` of a padded message
abbrev pub block_of : ℕ → List ℕ → List ℕ
block_of n padded = take 64 (drop (n * 64) padded)

-- the number of blocks of a padded message of `len` bytes
abbrev pub blocks_of : ℕ → ℕ
blocks_of len = len / 64 + (len % 64 + 72) / 64

-- the padding of a message of `len` bytes stands in `end`, which begins where its whole blocks end
abbrev pub IsEndOf : ℕ → List ℕ → Type 0
IsEndOf len end = (at : ℕ) → len ≤ at → at < 64 * blocks_of len
    → slice_index end (at - 64 * (len / 64)) ≡ slice_index (padding len) (at - len)
