-- A number of two parts, of which the power of two is the greater, and a power that shows it prime.
use Rattle.std.specs.Prelude.{ℕ, suc, ◌+◌, ◌-◌, ◌*◌, ◌%◌, ◌^◌, ◌<◌, ◌≡◌}

-- `p` is `2 * odd * 2^k + 1`, below `4^(k + 1)`, and `g` to half of `p - 1` is -1 modulo `p`; the
-- base is a variable, so that nothing computes the power outright
pub record IsProth (p k odd g : ℕ) : Type 0 where
  pub order : p ≡ suc (odd * 2 ^ k + odd * 2 ^ k)
  pub small : p < 2 ^ suc k * 2 ^ suc k
  pub above : 2 < p
  pub half : (w : ℕ) → w ≡ g → w ^ (odd * 2 ^ k) % p ≡ p - 1
