-- Numbers with their binary digits turned round.
use Rattle.std.specs.Prelude.{ℕ, zero, suc, ◌+◌, ◌*◌, ◌/◌, ◌%◌, ◌^◌}

-- the number whose `k` binary digits are the lowest `k` of `i` turned round
unfoldable pub rev : ℕ → ℕ → ℕ
rev zero i = 0
rev (suc k) i = (i % 2) * 2 ^ k + rev k (i / 2)
