-- Sums of numbers of 64 bits, by their halves.
use Rattle.std.specs.Prelude.{ℕ, ◌+◌, ◌*◌, ◌≤◌, List}
use Rattle.std.specs.Simd.Lanes.{zip2, Each1}

-- what sums of low halves, and of high halves, of 32 bits stand for
abbrev pub totals : (low high : List ℕ) → List ℕ
totals low high = zip2 (λ l h. l + 4294967296 * h) low high

-- each is at most as great as `count` numbers of 32 bits together
abbrev pub AreWithin : (count : ℕ) (low high : List ℕ) → Type 0
AreWithin count low high =
    Each1 (λ n. n ≤ count * 4294967295) low × Each1 (λ n. n ≤ count * 4294967295) high
