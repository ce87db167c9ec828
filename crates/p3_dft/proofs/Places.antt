-- Where a block's entries and its first byte lie.
use Rattle.std.proofs.Common.{◌≡◌, ℕ, ◌+◌, ◌*◌, ◌<◌, ◌≤◌, ◌^◌, List, length, arith, Fits, w64}
use Rattle.std.proofs.Math.Nat.{mul-le-mul_right}
use Rattle.std.proofs.lemmas.Nat.{row_fits}

-- entry `i` of `n`, each of `size` bytes
pub bytes_fit : (i n size : ℕ) → i ≤ n → n * size < 2 ^ 64 → Fits w64 (i * size)
bytes_fit i n size within fits = omega (arith, mul-le-mul_right {m = i} {n = n} size within, fits)

-- block `m` of `n`, each of `size` entries, in a list that is as long as another
pub block_within : {A : Type 0} (xs ys : List A) (m n size : ℕ) → length xs ≡ length ys → length ys ≡ n * size → m < n → m * size + size ≤ length xs
block_within xs ys m n size same long below = omega (arith, row_fits m size n size below (omega arith), same, long)

pub starts_within : (a size : ℕ) → a ≤ a + size
starts_within a size = omega arith

pub none_below : {P : Type 0} (m : ℕ) → m < 0 → P
none_below m below = absurd (omega (arith, below))

pub before_end : (j n k : ℕ) → j < n → n ≤ k → j < k
before_end j n k below ended = omega (arith, below, ended)

pub less_at_most : (m n : ℕ) → m < n → m ≤ n
less_at_most m n below = omega (arith, below)

pub twice_below : (m n : ℕ) → m < n → m + m < n + n
twice_below m n below = omega (arith, below)

pub once_below : (m n : ℕ) → m < n → m < n + n
once_below m n below = omega (arith, below)

pub past_below : (m n : ℕ) → m < n → n + m < n + n
past_below m n below = omega (arith, below)

-- a number that fits, and one below it
pub sum_fits : (m n : ℕ) → m < n → n < 2 ^ 63 → Fits w64 (n + m)
sum_fits m n below few = omega (arith, below, few)

pub double_fits : (m n : ℕ) → m < n → n < 2 ^ 63 → Fits w64 (m + m)
double_fits m n below few = omega (arith, below, few)

-- a block's quarters
module _ (n q : ℕ) (long : n ≡ q + q + (q + q)) where
  pub in_first : (j : ℕ) → j < q → j < n
  in_first j below = omega (arith, long, below)

  pub in_second : (j : ℕ) → j < q → j + q < n
  in_second j below = omega (arith, long, below)

  pub in_third : (j : ℕ) → j < q → j + (q + q) < n
  in_third j below = omega (arith, long, below)

  pub in_fourth : (j : ℕ) → j < q → j + q + (q + q) < n
  in_fourth j below = omega (arith, long, below)

  pub four_quarters : (l : ℕ) → l ≡ q → n ≡ l + l + (l + l)
  four_quarters l same = omega (arith, long, same)

pub two_halves : (n h l : ℕ) → n ≡ h + h → l ≡ h → n ≡ l + l
two_halves n h l long same = omega (arith, long, same)
