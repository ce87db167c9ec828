-- Prime numbers, and inverses modulo one.
use Rattle.std.specs.Prelude.{ℕ, zero, suc, ◌-◌, ◌*◌, ◌/◌, ◌%◌, ◌<◌, ◌≢◌, true, false, leb}

-- no number from 2 up to below `p` divides `p`
abbrev pub IsPrime : ℕ → Type 0
IsPrime p = (1 < p) × ((d : ℕ) → 1 < d → d < p → p % d ≢ 0)

-- the inverse of `a` modulo the prime `p`, where `n` is at least `a`: that of 1 is 1, and since
-- `a * (p / a) + p % a` is 0 modulo `p`, that of `a` is `-(p / a)` times that of `p % a`
abbrev pub inverse_modulo : (p n a : ℕ) → ℕ
inverse_modulo p zero a = 1
inverse_modulo p (suc n) a =
    elim (leb a 1) [ true ↦ 1 | false ↦ (p - p / a) * inverse_modulo p n (p % a) % p ]
