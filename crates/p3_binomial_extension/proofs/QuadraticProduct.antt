-- The product in a quadratic extension is what division by `X^2 - w` leaves of the polynomials'
-- product, and `X^2 - w` has no factors where the extension is a field.
use Rattle.std.proofs.Common.{◌≡◌, ℕ, zero, suc, ◌<◌, List, [], ◌∷◌, length, refl, sym, ap, ap₂, ◌∙◌}
use Rattle.std.proofs.Common.{arith, lit<}
use Rattle.std.proofs.lemmas.List.{get_or_past}
use Rattle.algebra.specs.Field.{FieldOps, IsRing, IsField}
use Rattle.algebra.specs.Polynomial.{sum_below}
use Rattle.algebra.specs.PolynomialProduct.{coefficient, product_coefficient, polynomial_product}
use Rattle.algebra.specs.PolynomialProduct.{IsRemainder, HasNoFactors}
use Rattle.algebra.proofs.Ring.{Expr, var, ◌:+◌, ◌:*◌, ◌:=◌, solve, ring, terms, o, :1, minus}
use Rattle.algebra.proofs.Combine.{cancel_zero}
use Rattle.algebra.proofs.PolynomialProduct.{coefficient-polynomial_product}
use Rattle.algebra.proofs.PolynomialProduct.{product_coefficient-equal}
use Rattle.p3_binomial_extension.specs.Quadratic.{Quadratic, quadratic, quadratic_mul}
use Rattle.p3_binomial_extension.specs.Quadratic.{quadratic_coefficients, quadratic_modulus}
use Rattle.p3_binomial_extension.proofs.QuadraticField.{two, quadratic_equal, first, second}
use Rattle.p3_binomial_extension.proofs.QuadraticField.{quadratic_values}

-- the coefficient of `X^k` in the product of two elements of variables, as polynomials
abbrev whole : ℕ → Expr
whole k = coefficient terms
    (polynomial_product terms (quadratic_coefficients first) (quadratic_coefficients second)) k

-- the coefficient of `X^k` in what the division by `X^2 - w` makes of that product
abbrev divided : ℕ → Expr
divided k = coefficient terms (quadratic_coefficients (quadratic_mul terms (var 0) first second)) k
    :+ coefficient terms
    (polynomial_product terms (whole 2 ∷ []) (quadratic_modulus terms (var 0))) k

module _ {A : Type 0} (F : FieldOps A) (R : IsRing F) (w : A) where
  infixl 65 ◌⊕◌
  infixl 70 ◌⊗◌
  open F use {zero as 𝟘, one as 𝟙, add as ◌⊕◌, mul as ◌⊗◌, neg}

  -- what passes `X` in the product
  abbrev quotient_of : Quadratic A → Quadratic A → List A
  quotient_of a b = coefficient F
      (polynomial_product F (quadratic_coefficients a) (quadratic_coefficients b)) 2 ∷ []

  division : (a b : Quadratic A) (k : ℕ)
      → coefficient F
      (polynomial_product F (quadratic_coefficients a) (quadratic_coefficients b)) k
      ≡ coefficient F (quadratic_coefficients (quadratic_mul F w a b)) k
      ⊕ coefficient F (polynomial_product F (quotient_of a b) (quadratic_modulus F w)) k
  unfolding sum_below
  division a b zero = solve F R (quadratic_values F R w a b a) (whole 0) (divided 0) refl
  division a b (suc zero) = solve F R (quadratic_values F R w a b a) (whole 1) (divided 1) refl
  division a b (suc (suc zero)) =
      solve F R (quadratic_values F R w a b a) (whole 2) (divided 2) refl
  division a b (suc (suc (suc k))) = sym (R.add_zero 𝟘)

  pub quadratic_remainder : (a b : Quadratic A) → IsRemainder F (quadratic_modulus F w)
      (polynomial_product F (quadratic_coefficients a) (quadratic_coefficients b))
      (quadratic_coefficients (quadratic_mul F w a b))
  quadratic_remainder a b =
      record { shorter = lit< tt; quotient = quotient_of a b; division = division a b }

  -- the product modulo `X^2 - w`, from the coefficients `p` of the product as polynomials
  abbrev wrapped : (ℕ → A) → Quadratic A
  wrapped p = two (p 0 ⊕ w ⊗ p 2) (p 1)

  quadratic_mul_wraps : (a b : Quadratic A) → quadratic_mul F w a b ≡ wrapped (λ k.
      product_coefficient F (quadratic_coefficients a) (quadratic_coefficients b) k)
  unfolding sum_below
  quadratic_mul_wraps a b =
      let product_at = λ (k : ℕ). product_coefficient terms
      (quadratic_coefficients first) (quadratic_coefficients second) k in
      let c = quadratic_mul terms (var 0) first second in
      quadratic_equal
      (solve F R (quadratic_values F R w a b a) c.constant (product_at 0 :+ var 0 :* product_at 2) refl)
      (solve F R (quadratic_values F R w a b a) c.linear (product_at 1) refl)

  -- the modulus itself leaves nothing
  modulus_wraps : wrapped (λ k. coefficient F (quadratic_modulus F w) k) ≡ (quadratic F w).zero
  modulus_wraps = quadratic_equal (ring F R 1 (λ w. minus w :+ w :* :1 := o) refl w) refl

  -- nothing times zero has a coefficient of `X^2`
  zero_left : (b : Quadratic A) → product_coefficient F
      (quadratic_coefficients (quadratic F w).zero) (quadratic_coefficients b) 2 ≡ 𝟘
  unfolding sum_below
  zero_left b = solve F R (quadratic_values F R w b b b)
      (product_coefficient terms (o ∷ o ∷ []) (quadratic_coefficients second) 2) o refl

  zero_right : (a : Quadratic A) → product_coefficient F
      (quadratic_coefficients a) (quadratic_coefficients (quadratic F w).zero) 2 ≡ 𝟘
  unfolding sum_below
  zero_right a = solve F R (quadratic_values F R w a a a)
      (product_coefficient terms (quadratic_coefficients first) (o ∷ o ∷ []) 2) o refl

-- the polynomial of at most two coefficients, as an element
abbrev element_of : {A : Type 0} → FieldOps A → List A → Quadratic A
element_of F c = two (coefficient F c 0) (coefficient F c 1)

-- it has the same coefficients
element_coefficients : {A : Type 0} (F : FieldOps A) (c : List A) → length c < 3 → (i : ℕ)
    → coefficient F c i ≡ coefficient F (quadratic_coefficients (element_of F c)) i
element_coefficients F c l zero = refl
element_coefficients F c l (suc zero) = refl
element_coefficients F c l (suc (suc i)) = get_or_past c (suc (suc i)) F.zero (omega (arith, l))

-- a product that is the modulus would make zero of two elements of which neither is zero
pub quadratic_modulus_no_factors : {A : Type 0} (F : FieldOps A) (R : IsRing F) (w : A)
    → ¬ (F.one ≡ F.zero) → IsField (quadratic F w) → HasNoFactors F (quadratic_modulus F w)
quadratic_modulus_no_factors {A} F R w apart K a b short_a short_b is =
    let x = element_of F a in
    let y = element_of F b in
    let cs = λ (t : Quadratic A). quadratic_coefficients t in
    let at : (k : ℕ) → product_coefficient F (cs x) (cs y) k
    ≡ coefficient F (quadratic_modulus F w) k
    = λ k. sym (product_coefficient-equal F a b (cs x) (cs y)
    (element_coefficients F a short_a) (element_coefficients F b short_b) k)
    ∙ sym (coefficient-polynomial_product F R a b k) ∙ is k in
    let vanishes : quadratic_mul F w x y ≡ (quadratic F w).zero
    = quadratic_mul_wraps F R w x y
    ∙ quadratic_equal (ap₂ (λ s t. F.add s (F.mul w t)) (at 0) (at 2)) (at 1)
    ∙ modulus_wraps F R w in
    elim (K.decided x (quadratic F w).zero) [
      | yes z ↦ apart (sym (at 2)
          ∙ ap (λ (t : Quadratic A). product_coefficient F (cs t) (cs y) 2) z
          ∙ zero_left F R w y)
      | no n ↦ apart (sym (at 2)
          ∙ ap (λ (t : Quadratic A). product_coefficient F (cs x) (cs t) 2)
          (cancel_zero (quadratic F w) K x y n vanishes)
          ∙ zero_right F R w x)
    ]
