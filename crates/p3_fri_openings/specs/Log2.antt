-- Logarithms of powers of two.
use Rattle.std.specs.Prelude.{ℕ, zero, suc, ◌/◌, nat_lt, if◌then◌else◌}

-- how often `n` can be halved until it is below 2, at most as often as `limit` says
unfoldable pub halvings : (limit n : ℕ) → ℕ
halvings zero n = 0
halvings (suc limit) n = if nat_lt n 2 then 0 else suc (halvings limit (n / 2))

-- the base-2 logarithm of `n`, rounded down (0 of 0)
abbrev pub log2 : ℕ → ℕ
log2 n = halvings n n
