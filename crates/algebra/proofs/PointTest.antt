-- Which points lie on a coset: those whose `2^k`-th power is the shift's. So disjoint cosets, and
-- vanishing polynomials.
use Rattle.std.proofs.Common.{◌≡◌, ◌≢◌, ℕ, zero, suc, ◌+◌, ◌-◌, ◌^◌, ◌<◌, ◌≤◌, ◌↔◌, refl, sym, ap}
use Rattle.std.proofs.Common.{◌∙◌, arith}
use Rattle.std.proofs.Math.Nat.{pow-le-pow_right}
use Rattle.algebra.specs.Field.{FieldOps, IsField, IsHomomorphism, sub, pow}
use Rattle.algebra.specs.TwoAdic.{AreRoots, pt}
use Rattle.algebra.specs.Cosets.{coset_pt, IsOnCoset, IsOffCoset, vanishing}
use Rattle.algebra.specs.CosetLaws.{IsTested, AreApart}
use Rattle.algebra.proofs.Ring.{◌:+◌, ◌:*◌, ◌:-◌, ◌:=◌, ring}
use Rattle.algebra.proofs.RingLaws.{neg_unique, one_mul}
use Rattle.algebra.proofs.Combine.{sub-eq, sub-self, cancel_zero}
use Rattle.algebra.proofs.Powers.{double, pow-zero, pow-one, pow-times, pow-square, pow-one_base}
use Rattle.algebra.proofs.Powers.{homomorphism-pow}
use Rattle.algebra.proofs.Digits.{rev-zero}
use Rattle.algebra.proofs.Points.{point-full_turn, point-square, point-opposite, lifted_roots}
use Rattle.algebra.proofs.Lifting.{identity_homomorphism, homomorphism-nonzero, lifted_coset_pt}
use Rattle.algebra.proofs.Words.{point-restrict}

module _ {A : Type 0} (F : FieldOps A) (L : IsField F) where
  infixl 65 ◌⊕◌
  infixl 70 ◌⊗◌
  open F use {zero as 𝟘, one as 𝟙, add as ◌⊕◌, mul as ◌⊗◌, neg, inv}

  -- what has the square of `p` is `p` or its negative
  root_of_square : (p y : A) → p ⊗ p ≡ y ⊗ y → ¬ (p ≡ y) → neg p ≡ y
  root_of_square p y e n =
      sym (neg_unique F L.ring p y (cancel_zero F L (sub F p y) (p ⊕ y) (λ z. n (sub-eq F L.ring z))
      (ring F L.ring 2 (λ p y. (p :- y) :* (p :+ y) := p :* p :- y :* y) refl p y
      ∙ ap (λ t. sub F t (y ⊗ y)) e
      ∙ sub-self F L.ring (y ⊗ y))))

  -- powers of a quotient
  pub power_of_quotient : (x s : A) (n : ℕ) → s ≢ 𝟘 → pow F (x ⊗ inv s) n ⊗ pow F s n ≡ pow F x n
  power_of_quotient x s n z =
      pow-times F L.ring (x ⊗ inv s) s n
      ∙ ap (λ y. pow F y n)
      (ring F L.ring 3 (λ x s i. x :* i :* s := s :* i :* x) refl x s (inv s)
      ∙ ap (λ u. u ⊗ x) (L.mul_inv s z)
      ∙ one_mul F L.ring x)

  module _ (s x : A) (k : ℕ) (n : s ≢ 𝟘) where
    pub vanishing_where_powers_agree : pow F x (2 ^ k) ≡ pow F s (2 ^ k) → vanishing F s k x ≡ 𝟘
    vanishing_where_powers_agree e =
        ap (λ p. sub F p 𝟙)
        (sym (pow-times F L.ring x (inv s) (2 ^ k))
        ∙ ap (λ p. p ⊗ pow F (inv s) (2 ^ k)) e
        ∙ pow-times F L.ring s (inv s) (2 ^ k)
        ∙ ap (λ p. pow F p (2 ^ k)) (L.mul_inv s n)
        ∙ pow-one_base F L.ring (2 ^ k))
        ∙ sub-self F L.ring 𝟙

    pub powers_agree_where_vanishing : vanishing F s k x ≡ 𝟘 → pow F x (2 ^ k) ≡ pow F s (2 ^ k)
    powers_agree_where_vanishing e =
        sym (power_of_quotient x s (2 ^ k) n)
        ∙ ap (λ p. p ⊗ pow F s (2 ^ k)) (sub-eq F L.ring e)
        ∙ one_mul F L.ring (pow F s (2 ^ k))

  -- it is not zero where the quotient's power isn't one
  pub vanishing_nonzero : (s x : A) (k : ℕ) → pow F (x ⊗ inv s) (2 ^ k) ≢ 𝟙 → vanishing F s k x ≢ 𝟘
  vanishing_nonzero s x k n e = n (sub-eq F L.ring e)

  module _ (top : ℕ) (w : ℕ → A) (W : AreRoots F top w) where
    -- a root of unity of order dividing `2^k` is a point of the domain
    pub turn_is_point : (k : ℕ) (y : A) → k ≤ top → pow F y (2 ^ k) ≡ 𝟙
        → (i : ℕ) × (i < 2 ^ k) × (pt F w i k ≡ y)
    unfolding pt
    turn_is_point zero y b e = (
      zero,
      omega arith,
      ap (λ n. pow F (w zero) n) (rev-zero 0) ∙ pow-zero F (w zero) ∙ sym e
          ∙ pow-one F L.ring y,
    )
    turn_is_point (suc k) y b e =
        let h = turn_is_point k (y ⊗ y) (omega (arith, b)) squared in
        next h.0 h.1 (point-square F L top w W h.0 k b ∙ h.2)
      where
        squared : pow F (y ⊗ y) (2 ^ k) ≡ 𝟙
        squared = pow-square F L.ring y (2 ^ k) ∙ ap (λ n. pow F y n) (sym (double k)) ∙ e

        next : (i : ℕ) → i < 2 ^ k → pt F w (i + i) (suc k) ⊗ pt F w (i + i) (suc k) ≡ y ⊗ y
            → (j : ℕ) × (j < 2 ^ suc k) × (pt F w j (suc k) ≡ y)
        next i l squares = elim (L.decided (pt F w (i + i) (suc k)) y) [
          | yes same ↦ (i + i, rw (double k) (omega (arith, l)), same)
          | no other ↦ (
            suc (i + i),
            rw (double k) (omega (arith, l)),
            point-opposite F L top w W i k b
                ∙ root_of_square (pt F w (i + i) (suc k)) y squares other,
          )
        ]

    -- the points of a coset have the shift's power
    pub coset_power : (shift : A) (i k : ℕ) → k ≤ top
        → pow F (coset_pt F w shift i k) (2 ^ k) ≡ pow F shift (2 ^ k)
    coset_power shift i k b =
        sym (pow-times F L.ring shift (pt F w i k) (2 ^ k))
        ∙ ap (λ p. pow F shift (2 ^ k) ⊗ p) (point-full_turn F L top w W i k b)
        ∙ L.mul_one (pow F shift (2 ^ k))

    -- and no other points have it
    pub point_from_power : (shift : A) → shift ≢ 𝟘 → (k : ℕ) (z : A) → k ≤ top
        → pow F z (2 ^ k) ≡ pow F shift (2 ^ k)
        → (i : ℕ) × (i < 2 ^ k) × (coset_pt F w shift i k ≡ z)
    point_from_power shift n k z b e =
        let h = turn_is_point k (z ⊗ inv shift) b
        (sub-eq F L.ring (vanishing_where_powers_agree shift z k n e)) in (
          h.0,
          h.1,
          ap (λ p. shift ⊗ p) h.2
              ∙ ring F L.ring 3 (λ s z i. s :* (z :* i) := s :* i :* z) refl shift z (inv shift)
              ∙ ap (λ u. u ⊗ z) (L.mul_inv shift n)
              ∙ one_mul F L.ring z,
        )

    -- a vanishing polynomial is one constant on another coset of the size
    pub vanishing_on_coset : (s t : A) (i k : ℕ) → k ≤ top
        → vanishing F s k (coset_pt F w t i k) ≡ vanishing F s k t
    vanishing_on_coset s t i k b =
        ap (λ p. sub F p 𝟙)
        (sym (pow-times F L.ring (coset_pt F w t i k) (inv s) (2 ^ k))
        ∙ ap (λ p. p ⊗ pow F (inv s) (2 ^ k)) (coset_power t i k b)
        ∙ pow-times F L.ring t (inv s) (2 ^ k))

-- the test, for points of an extension
module _ {A E : Type 0} (F : FieldOps A) (K : FieldOps E) (lift : A → E) (L : IsField F)
    (M : IsField K)
    (H : IsHomomorphism F K lift) (top : ℕ) (w : ℕ → A) (W : AreRoots F top w) (shift : A) where
  pub power_on_coset : (k : ℕ) (z : E) → k ≤ top → IsOnCoset F lift w shift k z
      → pow K z (2 ^ k) ≡ lift (pow F shift (2 ^ k))
  power_on_coset k z b h =
      ap (λ x. pow K x (2 ^ k)) (sym h.2)
      ∙ sym (homomorphism-pow F K lift H (coset_pt F w shift h.0 k) (2 ^ k))
      ∙ ap lift (coset_power F L top w W shift h.0 k b)

  pub on_coset_from_power : shift ≢ F.zero → (k : ℕ) (z : E) → k ≤ top
      → pow K z (2 ^ k) ≡ lift (pow F shift (2 ^ k)) → IsOnCoset F lift w shift k z
  on_coset_from_power n k z b e =
      let h = point_from_power K M top (λ j. lift (w j)) (lifted_roots F K lift L M H top w W)
      (lift shift) (homomorphism-nonzero F K lift L M H shift n) k z b
      (e ∙ homomorphism-pow F K lift H shift (2 ^ k)) in
      (h.0, h.1, lifted_coset_pt F K lift H w shift h.0 k ∙ h.2)

  pub off_coset_from_power : (k : ℕ) (z : E) → k ≤ top
      → pow K z (2 ^ k) ≢ lift (pow F shift (2 ^ k))
      → IsOffCoset F lift w shift k z
  off_coset_from_power k z b n = λ i l e. n (power_on_coset k z b (i, l, e))

  -- the coset of a smaller size is a part
  pub off_smaller_coset : (j k : ℕ) (z : E) → j ≤ k → k ≤ top → IsOffCoset F lift w shift k z
      → IsOffCoset F lift w shift j z
  off_smaller_coset j k z s b off = λ i l e.
      off i (below i l)
      (ap (λ n. lift (coset_pt F w shift i n)) (let sum : k ≡ j + (k - j) = omega (arith, s) in sum)
      ∙ ap (λ x. lift (F.mul shift x))
      (point-restrict F L top w W i j (k - j) l (omega (arith, s, b)))
      ∙ e)
    where
      below : (i : ℕ) → i < 2 ^ j → i < 2 ^ k
      below i l =
          let more : 2 ^ j ≤ 2 ^ k = pow-le-pow_right {n = 2} (omega arith) {i = j} {j = k} s in
          omega (arith, l, more)

  -- off it, no difference is zero
  pub off_coset_difference : (k : ℕ) (z : E) → IsOffCoset F lift w shift k z
      → (i : ℕ) → i < 2 ^ k → sub K z (lift (coset_pt F w shift i k)) ≢ K.zero
  off_coset_difference k z off i l e = off i l (sym (sub-eq K M.ring e))

  pub point_test : shift ≢ F.zero → (k : ℕ) → k ≤ top → (z : E) → IsTested F K lift w shift k z
  point_test n k b z = record {
    point = (on_coset_from_power n k z b, power_on_coset k z b);
    differences = λ other j i s l.
        off_coset_difference j z (off_smaller_coset j k z s b
        (off_coset_from_power k z b other)) i l;
  }

module _ {A : Type 0} (F : FieldOps A) (L : IsField F) (top : ℕ) (w : ℕ → A)
    (W : AreRoots F top w) where
  pub vanishing_exactly : (shift : A) → shift ≢ F.zero → (k : ℕ) → k ≤ top → (x : A)
      → (vanishing F shift k x ≡ F.zero) ↔ IsOnCoset F (λ y. y) w shift k x
  vanishing_exactly shift n k b x = (
    λ e. point_from_power F L top w W shift n k x b
        (powers_agree_where_vanishing F L shift x k n e),
    λ h. vanishing_where_powers_agree F L shift x k n
        (power_on_coset F F (λ y. y) L L (identity_homomorphism F) top w W shift k x b h),
  )

  -- cosets whose shifts' quotient isn't a root of unity of that order have no point in common
  pub cosets_apart : (s t : A) → s ≢ F.zero → (k : ℕ) → k ≤ top
      → pow F (F.mul t (F.inv s)) (2 ^ k) ≢ F.one
      → AreApart F w s t k
  cosets_apart s t n k b other = record {
    disjoint = λ i j l e.
        vanishing_nonzero F L s t k other
        (sym (vanishing_on_coset F L top w W s t i k b)
        ∙ proof_of_zero (coset_pt F w t i k) (j, l, e));
    constant = λ i. vanishing_on_coset F L top w W s t i k b;
    nonzero = vanishing_nonzero F L s t k other;
  }
    where
      proof_of_zero : (x : A) → IsOnCoset F (λ y. y) w s k x → vanishing F s k x ≡ F.zero
      proof_of_zero x h = let is = vanishing_exactly s n k b x in is.1 h
