-- Cosets of two-adic domains: their points in bit-reversed order, and their vanishing polynomials.
use Rattle.std.specs.Prelude.{◌≡◌, ◌≢◌, ℕ, ◌^◌, ◌<◌}
use Rattle.algebra.specs.Field.{FieldOps, sub, pow}
use Rattle.algebra.specs.TwoAdic.{pt}

module _ {A : Type 0} (F : FieldOps A) where
  -- the `i`-th point of the coset of `shift` of `2^k` points
  abbrev pub coset_pt : (w : ℕ → A) (shift : A) (i k : ℕ) → A
  coset_pt w shift i k = F.mul shift (pt F w i k)

  -- the value at `x` of the polynomial `(X / shift)^(2^k) - 1`
  abbrev pub vanishing : (shift : A) (k : ℕ) (x : A) → A
  vanishing shift k x = sub F (pow F (F.mul x (F.inv shift)) (2 ^ k)) F.one

module _ {A E : Type 0} (F : FieldOps A) (lift : A → E) (w : ℕ → A) (shift : A) (k : ℕ) where
  -- `z` is one of the coset's points, in an extension of the field
  abbrev pub IsOnCoset : (z : E) → Type 0
  IsOnCoset z = (i : ℕ) × (i < 2 ^ k) × (lift (coset_pt F w shift i k) ≡ z)

  -- `z` is none of them
  abbrev pub IsOffCoset : (z : E) → Type 0
  IsOffCoset z = (i : ℕ) → i < 2 ^ k → lift (coset_pt F w shift i k) ≢ z
