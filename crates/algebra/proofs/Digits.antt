-- Laws of turned digits: twice is once, and how they split at a digit.
use Rattle.std.proofs.Common.{ℕ, zero, suc, ◌+◌, ◌*◌, ◌-◌, ◌/◌, ◌%◌, ◌^◌, ◌<◌, ◌≤◌, ◌≡◌, refl, sym}
use Rattle.std.proofs.Common.{ap, ap₂, ◌∙◌, arith, zero-add, suc-add}
use Rattle.std.proofs.lemmas.Nat.{pow-add}
use Rattle.std.proofs.Math.Nat.{div-div-eq-div-mul, pow-succ'}
use Rattle.algebra.specs.Digits.{rev}
use Rattle.algebra.proofs.Powers.{double}

pub rev-zero : (i : ℕ) → rev 0 i ≡ 0
unfolding rev
rev-zero i = refl

pub rev-suc : (k i : ℕ) → rev (suc k) i ≡ (i % 2) * 2 ^ k + rev k (i / 2)
unfolding rev
rev-suc k i = refl

pub rev-lt : (k i : ℕ) → rev k i < 2 ^ k
rev-lt zero i = rw (rev-zero i) (omega arith)
rev-lt (suc k) i = rw (rev-suc k i, double k) (step (i % 2) (2 ^ k) (rev k (i / 2)) (rev-lt k (i / 2)) (omega arith))
  where
    step : (b p r : ℕ) → r < p → b ≤ 1 → b * p + r < p + p
    step zero p r l h = omega (arith, l)
    step (suc zero) p r l h = omega (arith, l)
    step (suc (suc b)) p r l h = absurd (omega (arith, h))

pub rev-even : (k i : ℕ) → rev (suc k) (i + i) ≡ rev k i
rev-even k i = rev-suc k (i + i) ∙ ap₂ (λ r q. r * 2 ^ k + rev k q) even here ∙ omega arith
  where
    even : (i + i) % 2 ≡ 0
    even = omega arith

    here : (i + i) / 2 ≡ i
    here = omega arith

pub rev-odd : (k i : ℕ) → rev (suc k) (suc (i + i)) ≡ 2 ^ k + rev k i
rev-odd k i = rev-suc k (suc (i + i)) ∙ ap₂ (λ r q. r * 2 ^ k + rev k q) odd here ∙ omega arith
  where
    odd : suc (i + i) % 2 ≡ 1
    odd = omega arith

    here : suc (i + i) / 2 ≡ i
    here = omega arith

-- by the highest digit `b`
pub rev-top : (k b i : ℕ) → i < 2 ^ k → b ≤ 1 → rev (suc k) (b * 2 ^ k + i) ≡ rev k i + rev k i + b
rev-top zero zero i l h = rw (rev-suc 0 (0 * 1 + i), rev-zero ((0 * 1 + i) / 2), rev-zero i) (omega (arith, l))
rev-top zero (suc zero) i l h = rw (rev-suc 0 (1 * 1 + i), rev-zero ((1 * 1 + i) / 2), rev-zero i) (omega (arith, l))
rev-top zero (suc (suc b)) i l h = absurd (omega (arith, h))
rev-top (suc k) b i l h =
    rev-suc (suc k) (b * 2 ^ suc k + i)
    ∙ ap₂ (λ r q. r * 2 ^ suc k + rev (suc k) q) low high
    ∙ ap (λ t. (i % 2) * 2 ^ suc k + t) (rev-top k b (i / 2) (half (rw (double k) at l)) h)
    ∙ ap (λ t. (i % 2) * t + (rev k (i / 2) + rev k (i / 2) + b)) (double k)
    ∙ sort (i % 2) (2 ^ k) (rev k (i / 2)) b
    ∙ ap (λ t. t + t + b) (sym (rev-suc k i))
  where
    half : i < 2 ^ k + 2 ^ k → i / 2 < 2 ^ k
    half m = omega (arith, m)

    low : (b * 2 ^ suc k + i) % 2 ≡ i % 2
    low = rw (double k) (parity b (2 ^ k) i)
      where
        parity : (b p i : ℕ) → (b * (p + p) + i) % 2 ≡ i % 2
        parity b p i = omega arith

    high : (b * 2 ^ suc k + i) / 2 ≡ b * 2 ^ k + i / 2
    high = rw (double k) (halves b (2 ^ k) i)
      where
        halves : (b p i : ℕ) → (b * (p + p) + i) / 2 ≡ b * p + i / 2
        halves b p i = omega arith

    sort : (u p r b : ℕ) → u * (p + p) + (r + r + b) ≡ (u * p + r) + (u * p + r) + b
    sort u p r b = omega arith

-- turned round twice
pub rev-rev : (k i : ℕ) → i < 2 ^ k → rev k (rev k i) ≡ i
rev-rev zero i l = rw (rev-zero (rev 0 i)) (omega (arith, l))
rev-rev (suc k) i l =
    ap (λ t. rev (suc k) t) (rev-suc k i)
    ∙ rev-top k (i % 2) (rev k (i / 2)) (rev-lt k (i / 2)) (omega arith)
    ∙ ap (λ t. t + t + i % 2) (rev-rev k (i / 2) (half (rw (double k) at l)))
    ∙ omega arith
  where
    half : i < 2 ^ k + 2 ^ k → i / 2 < 2 ^ k
    half m = omega (arith, m)

-- split between the digits: the lowest `k` come to the top
pub rev-split : (k m i : ℕ) → rev (k + m) i ≡ rev k i * 2 ^ m + rev m (i / 2 ^ k)
rev-split zero m i = ap₂ rev (zero-add m) refl ∙ rw (rev-zero i) (ap (λ n. rev m n) (let e : i ≡ i / 1 = omega arith in e) ∙ omega arith)
rev-split (suc k) m i =
    ap (λ t. rev t i) (suc-add k m)
    ∙ rev-suc (k + m) i
    ∙ ap₂ (λ p r. (i % 2) * p + r) (pow-add 2 k m) (rev-split k m (i / 2))
    ∙ sort (i % 2) (2 ^ k) (2 ^ m) (rev k (i / 2)) (rev m (i / 2 / 2 ^ k))
    ∙ ap₂ (λ t r. t * 2 ^ m + rev m r) (sym (rev-suc k i)) (div-div-eq-div-mul i 2 (2 ^ k) ∙ ap (λ d. i / d) (sym (pow-succ' 2 k)))
  where
    sort : (b p q r s : ℕ) → b * (p * q) + (r * q + s) ≡ (b * p + r) * q + s
    sort b p q r s = omega arith

pub rev-of_zero : (k : ℕ) → rev k 0 ≡ 0
rev-of_zero zero = rev-zero 0
rev-of_zero (suc k) = rev-suc k 0 ∙ omega (arith, rev-of_zero k)
