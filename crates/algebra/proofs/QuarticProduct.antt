-- The product of the quartic extension is that of polynomials modulo `X^4 - w`, which has no
-- factors.
use Rattle.std.proofs.Common.{◌≡◌, ℕ, zero, suc, ◌<◌, List, [], ◌∷◌, length, refl, sym, ap, ap₂}
use Rattle.std.proofs.Common.{◌∙◌, arith, lit<}
use Rattle.std.proofs.lemmas.List.{get_or_past}
use Rattle.algebra.specs.Field.{FieldOps, IsRing, IsField}
use Rattle.algebra.specs.Polynomial.{sum_below}
use Rattle.algebra.specs.PolynomialProduct.{coefficient, product_coefficient, polynomial_product}
use Rattle.algebra.specs.PolynomialProduct.{IsRemainder, HasNoFactors}
use Rattle.algebra.specs.QuarticExtension.{Quartic, quartic, quartic_mul, quartic_coefficients}
use Rattle.algebra.specs.QuarticExtension.{quartic_modulus}
use Rattle.algebra.proofs.Ring.{Expr, var, ◌:+◌, ◌:*◌, ◌:=◌, solve, ring, terms, o, :1, minus}
use Rattle.algebra.proofs.Combine.{cancel_zero}
use Rattle.algebra.proofs.PolynomialProduct.{coefficient-polynomial_product}
use Rattle.algebra.proofs.PolynomialProduct.{product_coefficient-equal}
use Rattle.algebra.proofs.QuarticExtension.{four, quartic_equal, first, second, values}

-- the coefficient of `X^k` in the product of two elements of variables, as polynomials
abbrev whole : ℕ → Expr
whole k = coefficient terms (polynomial_product terms (quartic_coefficients first) (quartic_coefficients second)) k

-- its quotient by `X^4 - w`: what passes `X^3`
abbrev multiples : List Expr
multiples = whole 4 ∷ whole 5 ∷ whole 6 ∷ []

-- the coefficient of `X^k` in what the division by `X^4 - w` makes of that product
abbrev divided : ℕ → Expr
divided k = coefficient terms (quartic_coefficients (quartic_mul terms (var 0) first second)) k :+ coefficient terms (polynomial_product terms multiples (quartic_modulus terms (var 0))) k

module _ {A : Type 0} (F : FieldOps A) (R : IsRing F) (w : A) where
  infixl 65 ◌⊕◌
  infixl 70 ◌⊗◌
  open F use {zero as 𝟘, one as 𝟙, add as ◌⊕◌, mul as ◌⊗◌, neg}

  -- what passes `X^3` in the product
  abbrev quotient_of : Quartic A → Quartic A → List A
  quotient_of a b = let c = polynomial_product F (quartic_coefficients a) (quartic_coefficients b) in coefficient F c 4 ∷ coefficient F c 5 ∷ coefficient F c 6 ∷ []

  division : (a b : Quartic A) (k : ℕ) → coefficient F (polynomial_product F (quartic_coefficients a) (quartic_coefficients b)) k
      ≡ coefficient F (quartic_coefficients (quartic_mul F w a b)) k ⊕ coefficient F (polynomial_product F (quotient_of a b) (quartic_modulus F w)) k
  unfolding sum_below
  division a b zero = solve F R (values F R w a b a) (whole 0) (divided 0) refl
  division a b (suc zero) = solve F R (values F R w a b a) (whole 1) (divided 1) refl
  division a b (suc (suc zero)) = solve F R (values F R w a b a) (whole 2) (divided 2) refl
  division a b (suc (suc (suc zero))) = solve F R (values F R w a b a) (whole 3) (divided 3) refl
  division a b (suc (suc (suc (suc zero)))) = solve F R (values F R w a b a) (whole 4) (divided 4) refl
  division a b (suc (suc (suc (suc (suc zero))))) = solve F R (values F R w a b a) (whole 5) (divided 5) refl
  division a b (suc (suc (suc (suc (suc (suc zero)))))) = solve F R (values F R w a b a) (whole 6) (divided 6) refl
  division a b (suc (suc (suc (suc (suc (suc (suc k))))))) = sym (R.add_zero 𝟘)

  pub quartic_remainder : (a b : Quartic A) → IsRemainder F (quartic_modulus F w) (polynomial_product F (quartic_coefficients a) (quartic_coefficients b)) (quartic_coefficients (quartic_mul F w a b))
  quartic_remainder a b = record { shorter = lit< tt; quotient = quotient_of a b; division = division a b }

  -- the product modulo `X^4 - w`, from the coefficients `p` of the product as polynomials
  abbrev wrapped : (ℕ → A) → Quartic A
  wrapped p = four (p 0 ⊕ w ⊗ p 4) (p 1 ⊕ w ⊗ p 5) (p 2 ⊕ w ⊗ p 6) (p 3)

  quartic_mul_wraps : (a b : Quartic A) → quartic_mul F w a b ≡ wrapped (λ k. product_coefficient F (quartic_coefficients a) (quartic_coefficients b) k)
  unfolding sum_below
  quartic_mul_wraps a b =
      let product_at = λ (k : ℕ). product_coefficient terms (quartic_coefficients first) (quartic_coefficients second) k in
      let c = quartic_mul terms (var 0) first second in
      quartic_equal
      (solve F R (values F R w a b a) c.constant (product_at 0 :+ var 0 :* product_at 4) refl)
      (solve F R (values F R w a b a) c.linear (product_at 1 :+ var 0 :* product_at 5) refl)
      (solve F R (values F R w a b a) c.quadratic (product_at 2 :+ var 0 :* product_at 6) refl)
      (solve F R (values F R w a b a) c.cubic (product_at 3) refl)

  -- the modulus itself leaves nothing
  modulus_wraps : wrapped (λ k. coefficient F (quartic_modulus F w) k) ≡ (quartic F w).zero
  modulus_wraps = quartic_equal
      (ring F R 1 (λ w. minus w :+ w :* :1 := o) refl w)
      (ring F R 1 (λ w. o :+ w :* o := o) refl w)
      (ring F R 1 (λ w. o :+ w :* o := o) refl w)
      refl

  -- nothing times zero has a coefficient of `X^4`
  zero_product_left : (b : Quartic A) → product_coefficient F (quartic_coefficients (quartic F w).zero) (quartic_coefficients b) 4 ≡ 𝟘
  unfolding sum_below
  zero_product_left b = solve F R (values F R w b b b) (product_coefficient terms (o ∷ o ∷ o ∷ o ∷ []) (quartic_coefficients second) 4) o refl

  zero_product_right : (a : Quartic A) → product_coefficient F (quartic_coefficients a) (quartic_coefficients (quartic F w).zero) 4 ≡ 𝟘
  unfolding sum_below
  zero_product_right a = solve F R (values F R w a a a) (product_coefficient terms (quartic_coefficients first) (o ∷ o ∷ o ∷ o ∷ []) 4) o refl

-- the polynomial of at most four coefficients, as an element
abbrev element_of : {A : Type 0} → FieldOps A → List A → Quartic A
element_of F c = four (coefficient F c 0) (coefficient F c 1) (coefficient F c 2) (coefficient F c 3)

-- it has the same coefficients
element_coefficients : {A : Type 0} (F : FieldOps A) (c : List A) → length c < 5 → (i : ℕ) → coefficient F c i ≡ coefficient F (quartic_coefficients (element_of F c)) i
element_coefficients F c l zero = refl
element_coefficients F c l (suc zero) = refl
element_coefficients F c l (suc (suc zero)) = refl
element_coefficients F c l (suc (suc (suc zero))) = refl
element_coefficients F c l (suc (suc (suc (suc i)))) = get_or_past c (suc (suc (suc (suc i)))) F.zero (omega (arith, l))

-- a product that is the modulus would make zero of two elements of which neither is zero
pub quartic_modulus_no_factors : {A : Type 0} (F : FieldOps A) (R : IsRing F) (w : A) → ¬ (F.one ≡ F.zero) → IsField (quartic F w) → HasNoFactors F (quartic_modulus F w)
quartic_modulus_no_factors {A} F R w apart K a b short_a short_b is =
    let x = element_of F a in
    let y = element_of F b in
    let at : (k : ℕ) → product_coefficient F (quartic_coefficients x) (quartic_coefficients y) k ≡ coefficient F (quartic_modulus F w) k
    = λ k. sym (product_coefficient-equal F a b (quartic_coefficients x) (quartic_coefficients y) (element_coefficients F a short_a) (element_coefficients F b short_b) k) ∙ sym (coefficient-polynomial_product F R a b k) ∙ is k in
    let vanishes : quartic_mul F w x y ≡ (quartic F w).zero
    = quartic_mul_wraps F R w x y
    ∙ quartic_equal (ap₂ (λ s t. F.add s (F.mul w t)) (at 0) (at 4)) (ap₂ (λ s t. F.add s (F.mul w t)) (at 1) (at 5)) (ap₂ (λ s t. F.add s (F.mul w t)) (at 2) (at 6)) (at 3)
    ∙ modulus_wraps F R w in
    elim (K.decided x (quartic F w).zero) [
      | yes z ↦ apart (sym (at 4) ∙ ap (λ (t : Quartic A). product_coefficient F (quartic_coefficients t) (quartic_coefficients y) 4) z ∙ zero_product_left F R w y)
      | no n ↦ apart (sym (at 4) ∙ ap (λ (t : Quartic A). product_coefficient F (quartic_coefficients x) (quartic_coefficients t) 4) (cancel_zero (quartic F w) K x y n vanishes) ∙ zero_product_right F R w x)
    ]
