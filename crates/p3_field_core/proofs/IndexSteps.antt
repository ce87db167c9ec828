-- Counting up with the digits reversed: from `rev k i` to `rev k (suc i)` by one exclusive or.
use Rattle.std.proofs.Common.{◌≡◌, ℕ, zero, suc, ◌+◌, ◌-◌, ◌*◌, ◌/◌, ◌%◌, ◌^◌, ◌<◌, ◌≤◌, refl, sym}
use Rattle.std.proofs.Common.{ap, ap₂, ◌∙◌, subst, arith, bit_xor}
use Rattle.std.specs.Int.{IsPowerOfTwo}
use Rattle.std.specs.Int.Count.{count_trailing_zeros, under}
use Rattle.std.specs.Int.Bits.{xor_zero_l, xor_zero_r, xor_self}
use Rattle.std.proofs.lemmas.Nat.{shr_le, xor_block, pow_pos}
use Rattle.std.proofs.Math.Nat.{div-div-eq-div-mul, pow-succ'}
use Rattle.algebra.specs.Digits.{rev}
use Rattle.algebra.proofs.Digits.{rev-even, rev-odd, rev-lt}
use Rattle.algebra.proofs.Powers.{double}
use Rattle.p3_field_core.proofs.IndexPowers.{exponent_below}

halved : (k i : ℕ) → i < 2 ^ suc k → i / 2 < 2 ^ k
halved k i small = omega (arith, small, double k)

below_digit : (digit t k : ℕ) → (digit ≡ 0 → t < k) → under digit t < suc k
below_digit zero t k h = omega (arith, h refl)
below_digit (suc digit) t k h = omega arith

-- a number of `k` digits, not 0, has fewer than `k` zeros at its end
pub count_trailing_zeros-lt : (bits k i : ℕ) → k ≤ bits → 0 < i → i < 2 ^ k
    → count_trailing_zeros bits i < k
unfolding count_trailing_zeros
count_trailing_zeros-lt bits zero i le some small = absurd (omega (arith, some, small))
count_trailing_zeros-lt zero (suc k) i le some small = absurd (omega (arith, le))
count_trailing_zeros-lt (suc bits) (suc k) i le some small =
    below_digit (i % 2) (count_trailing_zeros bits (i / 2)) k
    (λ even. count_trailing_zeros-lt bits k (i / 2) (omega (arith, le)) (omega (arith, even, some))
    (halved k i small))

-- the number of `k` digits of which the `t + 1` highest are ones
abbrev highest : ℕ → ℕ → ℕ
highest k t = 2 ^ k - 2 ^ k / 2 ^ (t + 1)

highest-zero : (k : ℕ) → highest (suc k) 0 ≡ 2 ^ k
highest-zero k = omega (arith, double k)

highest-suc : (k t : ℕ) → highest (suc k) (suc t) ≡ 2 ^ k + highest k t
highest-suc k t = omega (arith, shifted, double k, shr_le (2 ^ k) (t + 1))
  where
    shifted : 2 ^ suc k / 2 ^ (suc t + 1) ≡ 2 ^ k / 2 ^ (t + 1)
    shifted =
        ap (λ n. 2 ^ suc k / 2 ^ n) (let e : suc t + 1 ≡ suc (t + 1) = omega arith in e)
        ∙ ap (λ d. 2 ^ suc k / d) (pow-succ' 2 (t + 1))
        ∙ sym (div-div-eq-div-mul (2 ^ suc k) 2 (2 ^ (t + 1)))
        ∙ ap (λ n. n / 2 ^ (t + 1)) (let e : 2 ^ suc k / 2 ≡ 2 ^ k = omega (arith, double k) in e)

highest-lt : (k t : ℕ) → t < k → highest k t < 2 ^ k
highest-lt zero t l = absurd (omega (arith, l))
highest-lt (suc k) zero l = omega (arith, highest-zero k, double k, pow_pos k)
highest-lt (suc k) (suc t) l =
    omega (arith, highest-suc k t, double k, highest-lt k t (omega (arith, l)))

-- of two numbers of `k` digits, the digit above them taken on
xor_above : (k r : ℕ) → r < 2 ^ k → bit_xor r (2 ^ k) ≡ 2 ^ k + r
xor_above k r l =
    ap₂ (λ a b. bit_xor a b) (let e : r ≡ 0 * 2 ^ k + r = omega arith in e)
    (let e : 2 ^ k ≡ 1 * 2 ^ k + 0 = omega arith in e)
    ∙ xor_block k 0 1 r 0 l (pow_pos k)
    ∙ ap₂ (λ a b. a * 2 ^ k + b) (xor_zero_l 1) (xor_zero_r r)
    ∙ omega arith

xor_both_above : (k r s : ℕ) → r < 2 ^ k → s < 2 ^ k → bit_xor (2 ^ k + r) (2 ^ k + s) ≡ bit_xor r s
xor_both_above k r s l m =
    ap₂ (λ a b. bit_xor a b) (let e : 2 ^ k + r ≡ 1 * 2 ^ k + r = omega arith in e)
    (let e : 2 ^ k + s ≡ 1 * 2 ^ k + s = omega arith in e)
    ∙ xor_block k 1 1 r s l m
    ∙ ap (λ a. a * 2 ^ k + bit_xor r s) (xor_self 1)
    ∙ omega arith

-- to `suc i` by the digits that change on the way up from `i`
Steps : ℕ → ℕ → ℕ → Type 0
Steps bits k i = bit_xor (rev k i) (highest k (count_trailing_zeros bits (suc i))) ≡ rev k (suc i)

from_even : (bits k m : ℕ) → Steps (suc bits) (suc k) (m + m)
unfolding Steps count_trailing_zeros
from_even bits k m =
    ap₂ (λ r s. bit_xor r s) (rev-even k m)
    (ap (λ d. highest (suc k) (under d (count_trailing_zeros bits (suc (m + m) / 2))))
    (let e : suc (m + m) % 2 ≡ 1 = omega arith in e) ∙ highest-zero k)
    ∙ xor_above k (rev k m) (rev-lt k m)
    ∙ sym (rev-odd k m)

from_odd : (bits k m : ℕ) → k ≤ bits → suc m < 2 ^ k → Steps bits k m
    → Steps (suc bits) (suc k) (suc (m + m))
unfolding Steps count_trailing_zeros
from_odd bits k m le small half =
    ap₂ (λ r s. bit_xor r s) (rev-odd k m)
    (ap₂ (λ d n. highest (suc k) (under d (count_trailing_zeros bits n)))
    (let e : suc (suc (m + m)) % 2 ≡ 0 = omega arith in e)
    (let e : suc (suc (m + m)) / 2 ≡ suc m = omega arith in e) ∙ highest-suc k t)
    ∙ xor_both_above k (rev k m) (highest k t) (rev-lt k m)
    (highest-lt k t (count_trailing_zeros-lt bits k (suc m) le (omega arith) small))
    ∙ half
    ∙ sym (ap (λ n. rev (suc k) n) (let e : suc (suc (m + m)) ≡ suc m + suc m = omega arith in e)
    ∙ rev-even k (suc m))
  where
    t : ℕ
    t = count_trailing_zeros bits (suc m)

by_lowest : (bits k i digit : ℕ) → i % 2 ≡ digit → k ≤ bits → suc i < 2 ^ suc k
    → (suc (i / 2) < 2 ^ k → Steps bits k (i / 2)) → Steps (suc bits) (suc k) i
by_lowest bits k i zero even le small half =
    subst (λ n. Steps (suc bits) (suc k) n) (omega (arith, even)) (from_even bits k (i / 2))
by_lowest bits k i (suc digit) odd le small half =
    let next : suc (i / 2) < 2 ^ k = omega (arith, odd, small, double k) in
    subst (λ n. Steps (suc bits) (suc k) n) (omega (arith, odd))
    (from_odd bits k (i / 2) le next (half next))

steps : (bits k i : ℕ) → k ≤ bits → suc i < 2 ^ k → Steps bits k i
steps bits zero i le small = absurd (omega (arith, small))
steps zero (suc k) i le small = absurd (omega (arith, le))
steps (suc bits) (suc k) i le small =
    by_lowest bits k i (i % 2) refl (omega (arith, le)) small
    (λ next. steps bits k (i / 2) (omega (arith, le)) next)

module _ (n i : ℕ) (small : n < 2 ^ 64) (some : 0 < i) (within : i < n) where
  -- the step of a loop over the indices of a list of `n` entries, from `i - 1` to `i`
  pub bit_xor-highest : (k j : ℕ) → n ≡ 2 ^ k → j ≡ rev k (i - 1)
      → bit_xor j (n - n / 2 ^ (count_trailing_zeros 64 i + 1)) ≡ rev k i
  unfolding Steps
  bit_xor-highest k j e reversed =
      let next : suc (i - 1) ≡ i = omega (arith, some) in
      let digits : k < 64 = exponent_below k 64 (omega (arith, small, e)) in
      ap₂ (λ r m. bit_xor r (m - m / 2 ^ (count_trailing_zeros 64 i + 1))) reversed e
      ∙ ap (λ m. bit_xor (rev k (i - 1)) (highest k (count_trailing_zeros 64 m))) (sym next)
      ∙ steps 64 k (i - 1) (omega (arith, digits)) (omega (arith, some, within, e))
      ∙ ap (λ m. rev k m) next

  pub shift_fits : IsPowerOfTwo n → count_trailing_zeros 64 i + 1 < 64
  shift_fits (k, e) =
      let digits : k < 64 = exponent_below k 64 (omega (arith, small, e)) in
      omega (
        arith,
        digits,
        count_trailing_zeros-lt 64 k i (omega (arith, digits)) some
            (omega (arith, within, e)),
      )
