-- Rows by their log arity.
use Rattle.std.proofs.Common.{◌≡◌, ℕ, suc, ◌-◌, ◌*◌, ◌%◌, ◌^◌, ◌<◌, ◌≤◌, arith, subst, sym}
use Rattle.std.proofs.Math.Nat.{pow-le-pow_right}

-- the siblings of a row are fewer than a `usize` counts
pub row_fits : (n a : ℕ) → suc n ≡ 2 ^ a → a < 64 → n < 2 ^ 64 - 1
row_fits n a e l = omega (arith, e, pow-le-pow_right {n = 2} (omega arith) {i = a} {j = 63} (omega arith))

-- a value has its place among the siblings or behind them
pub place_in_row : (n index a : ℕ) → suc n ≡ 2 ^ a → a < 64
    → index % (1 * 2 ^ a % 18446744073709551616) ≤ n
place_in_row n index a e l =
    let same : 1 * 2 ^ a % 18446744073709551616 ≡ 2 ^ a = omega (arith, row_fits n a e l, e) in
    subst (λ size. index % size ≤ n) (sym same) (omega (arith, e))
