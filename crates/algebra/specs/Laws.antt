-- The statements of the law functions, for every field over the type `A`.
use Rattle.std.specs.Prelude.{◌≡◌, ◌≤◌, ℕ, ◌+◌, ◌^◌, List, length, take, slice_index_or, All}
use Rattle.algebra.specs.Field.{FieldOps, IsField, pow}
use Rattle.algebra.specs.Polynomial.{val, tabulate}
use Rattle.algebra.specs.Digits.{rev}
use Rattle.algebra.specs.TwoAdic.{AreRoots, pt}
use Rattle.algebra.specs.Words.{coset_word, IsCosetWord}
use Rattle.algebra.specs.Interpolation.{AreDistinct, Interpolates, interpolant}

-- the interpolant goes through the points
abbrev pub InterpolantExists : Type 0 → Type 0
InterpolantExists A = (F : FieldOps A) → IsField F → (xs ys : List A) → AreDistinct xs
    → length ys ≡ length xs → Interpolates F xs ys (interpolant F xs ys)

-- it is the only polynomial that does, with as many coefficients
abbrev pub InterpolantIsUnique : Type 0 → Type 0
InterpolantIsUnique A = (F : FieldOps A) → IsField F → (xs ys c : List A) → AreDistinct xs
    → Interpolates F xs ys c → c ≡ interpolant F xs ys

-- a polynomial with at least as many roots as coefficients is zero
abbrev pub RootsMakeZero : Type 0 → Type 0
RootsMakeZero A = (F : FieldOps A) → IsField F → (c xs : List A) → AreDistinct xs
    → length c ≤ length xs → All (λ x. val F c x ≡ F.zero) xs → All (λ a. a ≡ F.zero) c

-- coset words of log height `k` and of the log height `m` above it, with the points' shift
pub record WordsAreDetermined {A : Type 0} (F : FieldOps A) (w : ℕ → A) (shift : A) (k m : ℕ)
    : Type 0 where
  -- the first entries of a word are the smaller word of the same polynomial
  pub restricted : (c : List A)
      → take (2 ^ k) (coset_word F w shift (k + m) c) ≡ coset_word F w shift k c
  -- of polynomials with at most as many coefficients as entries, a word tells the larger one
  pub extended : (c d : List A) → length c ≡ length d → length c ≤ 2 ^ k
      → coset_word F w shift k c ≡ coset_word F w shift k d
      → coset_word F w shift (k + m) c ≡ coset_word F w shift (k + m) d
  -- any values are a word of as many coefficients
  pub interpolated : (ys : List A) → length ys ≡ 2 ^ k → IsCosetWord F w shift k (2 ^ k) ys
  -- and the word gives its coefficients back
  pub coefficients : (c : List A) → length c ≡ 2 ^ k
      → interpolant F (tabulate (2 ^ k) (λ i. F.mul shift (pt F w i k))) (coset_word F w shift k c)
      ≡ c
  -- a word is the values in natural order with turned indices
  pub turned : (c : List A) (d : A)
      → tabulate (2 ^ k) (λ i. slice_index_or
      (tabulate (2 ^ k) (λ j. val F c (F.mul shift (pow F (w k) j)))) (rev k i) d)
      ≡ coset_word F w shift k c

abbrev pub CosetWords : Type 0 → Type 0
CosetWords A = (F : FieldOps A) → IsField F → (top : ℕ) (w : ℕ → A) → AreRoots F top w
    → (shift : A) → ¬ (shift ≡ F.zero) → (k m : ℕ) → k + m ≤ top
    → WordsAreDetermined F w shift k m
