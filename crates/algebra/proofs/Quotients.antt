-- Quotients by `X - z` at the points of a coset that doesn't hold `z`.
use Rattle.std.proofs.Common.{◌≡◌, ◌≢◌, ℕ, suc, ◌^◌, List, [], ◌∷◌, ◌++◌, length, map}
use Rattle.std.proofs.Common.{refl, sym, ap, ap₂, ◌∙◌}
use Rattle.algebra.specs.Field.{FieldOps, IsField, IsHomomorphism, sub, pow}
use Rattle.algebra.specs.Polynomial.{val, tabulate, quotient}
use Rattle.algebra.specs.Cosets.{coset_pt, IsOffCoset}
use Rattle.algebra.specs.Words.{coset_word}
use Rattle.algebra.specs.Quotients.{quotients}
use Rattle.algebra.proofs.Ring.{◌:+◌, ◌:*◌, ◌:-◌, ◌:=◌, ring, o, :1}
use Rattle.algebra.proofs.Combine.{combine, sub-eq}
use Rattle.algebra.proofs.Division.{divide}
use Rattle.algebra.proofs.Values.{val-nil, val-cons, val-append}
use Rattle.algebra.proofs.Lists.{tabulate-equal}

pub length-quotients : {A : Type 0} (F : FieldOps A) (z x : A) (ys vs : List A)
    → length ys ≡ length vs
    → length (quotients F z x ys vs) ≡ length ys
length-quotients F z x [] vs e = refl
length-quotients F z x (y ∷ ys) [] e = absurd cc
length-quotients F z x (y ∷ ys) (v ∷ vs) e = ap suc (length-quotients F z x ys vs cc)

module _ {A : Type 0} (F : FieldOps A) (L : IsField F) where
  infixl 65 ◌⊕◌
  infixl 65 ◌⊖◌
  infixl 70 ◌⊗◌
  open F use {zero as 𝟘, one as 𝟙, add as ◌⊕◌, mul as ◌⊗◌, inv}

  abbrev ◌⊖◌ : A → A → A
  a ⊖ b = sub F a b

  -- the quotient at `x` of `c` by `X - z`
  pub quotient_value : (c : List A) (z x : A) → x ≢ z
      → (val F c z ⊖ val F c x) ⊗ inv (z ⊖ x) ≡ val F (quotient F c z) x
  quotient_value c z x n =
      ap (λ v. (val F c z ⊖ v) ⊗ inv (z ⊖ x)) (divide F L.ring c z x)
      ∙ combine F L.ring {k = val F (quotient F c z) x}
      (L.mul_inv (z ⊖ x) (λ e. n (sym (sub-eq F L.ring e))))
      (ring F L.ring 5 (λ z x y q i. (y :- (y :+ (x :- z) :* q)) :* i :+ q :* :1
      := q :+ q :* ((z :- x) :* i)) refl
      z x (val F c z) (val F (quotient F c z) x) (inv (z ⊖ x)))

  -- column by column
  pub quotient_values : (cs : List (List A)) (z x : A) → x ≢ z
      → quotients F z x (map (λ c. val F c z) cs) (map (λ c. val F c x) cs)
      ≡ map (λ c. val F (quotient F c z) x) cs
  quotient_values [] z x n = refl
  quotient_values (c ∷ cs) z x n =
      ap₂ (λ v vs. v ∷ vs) (quotient_value c z x n) (quotient_values cs z x n)

  -- the quotients by powers of `alpha`, together, are the quotient of the compressed values
  pub quotients_compressed : (z x alpha : A) (ys vs : List A) → length ys ≡ length vs
      → val F (quotients F z x ys vs) alpha ≡ (val F ys alpha ⊖ val F vs alpha) ⊗ inv (z ⊖ x)
  quotients_compressed z x alpha [] [] e =
      rw (val-nil F L.ring alpha) (ring F L.ring 1 (λ i. o := (o :- o) :* i) refl (inv (z ⊖ x)))
  quotients_compressed z x alpha [] (v ∷ vs) e = absurd cc
  quotients_compressed z x alpha (y ∷ ys) [] e = absurd cc
  quotients_compressed z x alpha (y ∷ ys) (v ∷ vs) e =
      rw (
        val-cons F L.ring ((y ⊖ v) ⊗ inv (z ⊖ x)) (quotients F z x ys vs) alpha,
        val-cons F L.ring y ys alpha,
        val-cons F L.ring v vs alpha,
        quotients_compressed z x alpha ys vs cc,
      )
      (ring F L.ring 6 (λ y v i a p q. (y :- v) :* i :+ a :* ((p :- q) :* i)
      := (y :+ a :* p :- (v :+ a :* q)) :* i) refl
      y v (inv (z ⊖ x)) alpha (val F ys alpha) (val F vs alpha))

  -- after other terms, by the powers that follow theirs
  pub quotients_joined : (z x alpha : A) (ts ys vs : List A) → length ys ≡ length vs
      → val F (ts ++ quotients F z x ys vs) alpha
      ≡ val F ts alpha ⊕ pow F alpha (length ts) ⊗ ((val F ys alpha ⊖ val F vs alpha) ⊗ inv (z ⊖ x))
  quotients_joined z x alpha ts ys vs e =
      val-append F L.ring ts (quotients F z x ys vs) alpha
      ∙ ap (λ v. val F ts alpha ⊕ pow F alpha (length ts) ⊗ v)
      (quotients_compressed z x alpha ys vs e)

  module _ (w : ℕ → A) (shift : A) (k : ℕ) where
    pub coset_word-quotient : (c : List A) (z : A) → IsOffCoset F (λ x. x) w shift k z
        → tabulate (2 ^ k) (λ i. (val F c z ⊖ val F c (coset_pt F w shift i k)) ⊗ inv
        (z ⊖ coset_pt F w shift i k))
        ≡ coset_word F w shift k (quotient F c z)
    coset_word-quotient c z off =
        tabulate-equal (2 ^ k)
        (λ i. (val F c z ⊖ val F c (coset_pt F w shift i k)) ⊗ inv (z ⊖ coset_pt F w shift i k))
        (λ i. val F (quotient F c z) (coset_pt F w shift i k))
        (λ i l. quotient_value c z (coset_pt F w shift i k) (off i l))

module _ {A E : Type 0} (F : FieldOps A) (K : FieldOps E) (lift : A → E) (L : IsField F)
    (M : IsField K)
    (H : IsHomomorphism F K lift) (w : ℕ → A) (shift : A) (k : ℕ) where
  abbrev roots : ℕ → E
  roots j = lift (w j)
