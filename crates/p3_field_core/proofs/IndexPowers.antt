-- Powers of two: their exponent, their quotients, std's test of them, and the zeros below their one.
use Rattle.std.proofs.Common.{◌≡◌, ℕ, zero, suc, ◌+◌, ◌-◌, ◌/◌, ◌%◌, ◌^◌, ◌<◌, ◌≤◌, refl, sym, ap, ap₂}
use Rattle.std.proofs.Common.{◌∙◌, arith, ◌↔◌, IsTrue, count_ones, eq-eqb, eqb-true, inl, inr}
use Rattle.std.specs.Int.{IsPowerOfTwo, is_power_of_two}
use Rattle.std.specs.Int.Count.{count_trailing_zeros, under, ones_step}
use Rattle.std.proofs.lemmas.Nat.{pow_below, pow_pos, pow-add, zero_from_ones, ones_le_self}
use Rattle.std.proofs.lemmas.Bool.{cases_lt}
use Rattle.std.proofs.Math.Nat.{mul-div_cancel, div-lt_iff_lt-mul}
use Rattle.std.proofs.Math.Pow.{pow_mono, pow-lt}
use Rattle.algebra.proofs.Powers.{double}

-- equal powers have equal exponents
pub exponents_agree : (j k : ℕ) → 2 ^ j ≡ 2 ^ k → j ≡ k
exponents_agree j k e = grind (arith, pow_below)

pub exponent_below : (j k : ℕ) → 2 ^ j < 2 ^ k → j < k
exponent_below j k l = grind (arith, pow_mono)

pub exponent_at_most : (j k : ℕ) → 2 ^ j ≤ 2 ^ k → j ≤ k
exponent_at_most j k l = elim (cases_lt k j) [
  | inl more ↦ absurd (omega (arith, l, pow-lt more))
  | inr less ↦ omega (arith, less)
]

pub power_quotient : (j k : ℕ) → j ≤ k → 2 ^ k / 2 ^ j ≡ 2 ^ (k - j)
power_quotient j k l =
    let e : k ≡ k - j + j = omega (arith, l) in
    ap (λ n. 2 ^ n / 2 ^ j) e ∙ ap (λ n. n / 2 ^ j) (pow-add 2 (k - j) j)
    ∙ mul-div_cancel (2 ^ (k - j)) (pow_pos j)

-- an index below a power of two, without its lowest digits
pub index_cut : (index k j : ℕ) → index < 2 ^ k → j ≤ k → index / 2 ^ j < 2 ^ (k - j)
index_cut index k j below l =
    let e : k ≡ k - j + j = omega (arith, l) in
    (div-lt_iff_lt-mul (pow_pos j)).1 (rw (← pow-add 2 (k - j) j) (rw e at below))

pub double_halved : (k : ℕ) → 2 ^ suc k / 2 ≡ 2 ^ k
double_halved k = rw (double k) (omega arith)

double_even : (k : ℕ) → 2 ^ suc k % 2 ≡ 0
double_even k = rw (double k) (omega arith)

-- below the one of a power of two stand as many zeros as its exponent says
count_trailing_zeros-pow : (bits k : ℕ) → k < bits → count_trailing_zeros bits (2 ^ k) ≡ k
unfolding count_trailing_zeros
count_trailing_zeros-pow zero k l = absurd (omega (arith, l))
count_trailing_zeros-pow (suc bits) zero l = refl
count_trailing_zeros-pow (suc bits) (suc k) l =
    ap₂ (λ d n. under d (count_trailing_zeros bits n)) (double_even k) (double_halved k)
    ∙ ap suc (count_trailing_zeros-pow bits k (omega (arith, l)))

pub pow-count_trailing_zeros : (bits n : ℕ) → IsPowerOfTwo n → n < 2 ^ bits
    → 2 ^ count_trailing_zeros bits n ≡ n
pow-count_trailing_zeros bits n (k, e) l =
    ap (λ m. 2 ^ count_trailing_zeros bits m) e
    ∙ ap (λ j. 2 ^ j) (count_trailing_zeros-pow bits k
    (exponent_below k bits (omega (arith, e, l))))
    ∙ sym e

count_ones-pow : (k : ℕ) → count_ones (2 ^ k) ≡ 1
count_ones-pow zero = ones_step 1 ∙ omega (arith, ones_le_self 0)
count_ones-pow (suc k) =
    ones_step (2 ^ suc k) ∙ ap₂ (λ d n. d + count_ones n) (double_even k) (double_halved k)
    ∙ omega (arith, count_ones-pow k)

-- by the lowest digit `digit` of `n`: 1 with no others set, or 0 over one more
from_lowest : (n digit : ℕ) → n % 2 ≡ digit → count_ones n ≡ 1
    → (count_ones (n / 2) ≡ 1 → IsPowerOfTwo (n / 2)) → IsPowerOfTwo n
from_lowest n zero even one half =
    let h = half (omega (arith, even, one, ones_step n)) in
    (suc h.0, omega (arith, even, h.1, double h.0))
from_lowest n (suc digit) odd one half =
    let none : n / 2 ≡ 0 = zero_from_ones (n / 2) (omega (arith, odd, one, ones_step n)) in
    (0, omega (arith, odd, none))

from_one_one : (most n : ℕ) → n ≤ most → count_ones n ≡ 1 → IsPowerOfTwo n
from_one_one zero n le one = absurd (omega (arith, le, one, ones_le_self n))
from_one_one (suc most) n le one =
    from_lowest n (n % 2) refl one (from_one_one most (n / 2) (omega (arith, le)))

-- the test `n.is_power_of_two()` passes the powers of two, and no other number
pub IsPowerOfTwo_test : (n : ℕ) → IsTrue (is_power_of_two n) ↔ IsPowerOfTwo n
IsPowerOfTwo_test n = (
  λ passed. from_one_one n n (omega arith) (eqb-true (count_ones n) 1 passed),
  λ power. eq-eqb (count_ones n) 1 (ap count_ones power.1 ∙ count_ones-pow power.0),
)
