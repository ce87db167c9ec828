-- What stands in one lane of words.
use Rattle.std.specs.Prelude.{◌≡◌, ◌<◌, ◌*◌, ◌%◌, ◌^◌, ℕ, List, map, slice_index}
use Rattle.sha2.specs.Sha256.{word_at}
use Rattle.sha256_lanes.specs.declared.words.Words.{Words}

-- a word shifted to the left, without what leaves it
abbrev pub left : ℕ → ℕ → ℕ
left word bits = word * 2 ^ bits % 2 ^ 32

-- the word in this lane
abbrev pub lane_word : Words → ℕ → ℕ
lane_word words lane = slice_index words.lanes lane

-- the words in this lane of each
abbrev pub lane_words : List Words → ℕ → List ℕ
lane_words rows lane = map (λ words. lane_word words lane) rows

-- the rows hold the sixteen words of the block in this lane
abbrev pub HoldsBlock : List Words → ℕ → List ℕ → Type 0
HoldsBlock rows lane block =
    (k : ℕ) → k < 16 → slice_index (lane_words rows lane) k ≡ word_at block (4 * k)
