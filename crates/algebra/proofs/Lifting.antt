-- What a homomorphism of fields carries over: negatives, differences, inverses, points.
use Rattle.std.proofs.Common.{◌≡◌, ◌≢◌, ℕ, List, map, refl, sym, ap, ◌∙◌}
use Rattle.algebra.specs.Field.{FieldOps, IsRing, IsField, IsHomomorphism, sub}
use Rattle.algebra.specs.Polynomial.{val}
use Rattle.algebra.specs.Digits.{rev}
use Rattle.algebra.specs.TwoAdic.{pt}
use Rattle.algebra.specs.Cosets.{coset_pt, IsOffCoset}
use Rattle.algebra.proofs.RingLaws.{neg_unique, zero_mul}
use Rattle.algebra.proofs.Powers.{homomorphism-pow}
use Rattle.algebra.proofs.Products.{inverse_from_product}
use Rattle.algebra.proofs.Values.{homomorphism-val}

-- a field lies in itself
pub identity_homomorphism : {A : Type 0} (F : FieldOps A) → IsHomomorphism F F (λ x. x)
identity_homomorphism F = record { zero = refl; one = refl; add = λ _ _. refl; mul = λ _ _. refl }

module _ {A E : Type 0} (F : FieldOps A) (K : FieldOps E) (h : A → E) (R : IsRing F) (S : IsRing K)
    (H : IsHomomorphism F K h) where
  pub homomorphism-neg : (a : A) → h (F.neg a) ≡ K.neg (h a)
  homomorphism-neg a =
      neg_unique K S (h a) (h (F.neg a)) (sym (H.add a (F.neg a)) ∙ ap h (R.add_neg a) ∙ H.zero)

  pub homomorphism-sub : (a b : A) → h (sub F a b) ≡ sub K (h a) (h b)
  homomorphism-sub a b = H.add a (F.neg b) ∙ ap (λ x. K.add (h a) x) (homomorphism-neg b)

module _ {A E : Type 0} (F : FieldOps A) (K : FieldOps E) (h : A → E) (L : IsField F)
    (M : IsField K)
    (H : IsHomomorphism F K h) where
  pub homomorphism-inv : (x : A) → x ≢ F.zero → h (F.inv x) ≡ K.inv (h x)
  homomorphism-inv x n =
      inverse_from_product K M (h x) (h (F.inv x))
      (sym (H.mul x (F.inv x)) ∙ ap h (L.mul_inv x n) ∙ H.one)

  -- what isn't zero has an inverse, whose image is an inverse of the image
  pub homomorphism-nonzero : (x : A) → x ≢ F.zero → h x ≢ K.zero
  homomorphism-nonzero x n e =
      M.one_not_zero (
      sym H.one
      ∙ ap h (sym (L.mul_inv x n))
      ∙ H.mul x (F.inv x)
      ∙ ap (λ y. K.mul y (h (F.inv x))) e
      ∙ zero_mul K M.ring (h (F.inv x))
      )

  pub homomorphism-zero : (x : A) → h x ≡ K.zero → x ≡ F.zero
  homomorphism-zero x e =
      elim (L.decided x F.zero) [ yes z ↦ z | no n ↦ absurd (homomorphism-nonzero x n e) ]

-- points over the extension, by the images of the roots
module _ {A E : Type 0} (F : FieldOps A) (K : FieldOps E) (h : A → E) (H : IsHomomorphism F K h)
    (w : ℕ → A) where
  pub lifted_pt : (i k : ℕ) → h (pt F w i k) ≡ pt K (λ j. h (w j)) i k
  unfolding pt
  lifted_pt i k = homomorphism-pow F K h H (w k) (rev k i)

  pub lifted_coset_pt : (shift : A) (i k : ℕ)
      → h (coset_pt F w shift i k) ≡ coset_pt K (λ j. h (w j)) (h shift) i k
  lifted_coset_pt shift i k = H.mul shift (pt F w i k) ∙ ap (λ x. K.mul (h shift) x) (lifted_pt i k)

  -- a point off the coset is off the coset of the images
  pub lifted_off_coset : (shift : A) (k : ℕ) (z : E) → IsOffCoset F h w shift k z
      → IsOffCoset K (λ x. x) (λ j. h (w j)) (h shift) k z
  lifted_off_coset shift k z off = λ i l e. off i l (lifted_coset_pt shift i k ∙ e)

module _ {A E : Type 0} (F : FieldOps A) (K : FieldOps E) (h : A → E) (R : IsRing F) (S : IsRing K)
    (H : IsHomomorphism F K h) (w : ℕ → A) where
  -- values and words over it
  pub lifted_value : (c : List A) (shift : A) (i k : ℕ)
      → h (val F c (coset_pt F w shift i k))
      ≡ val K (map h c) (coset_pt K (λ j. h (w j)) (h shift) i k)
  lifted_value c shift i k =
      homomorphism-val F K h R S H c (coset_pt F w shift i k)
      ∙ ap (λ x. val K (map h c) x) (lifted_coset_pt F K h H w shift i k)
