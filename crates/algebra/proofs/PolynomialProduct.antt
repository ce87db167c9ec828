-- The coefficients of a product, whatever the index.
use Rattle.std.proofs.Common.{◌≡◌, ℕ, zero, suc, ◌+◌, ◌-◌, ◌<◌, ◌≤◌, ◌⊎◌, inl, inr, List, length}
use Rattle.std.proofs.Common.{refl, sym, ap, ap₂, ◌∙◌, arith}
use Rattle.std.proofs.lemmas.List.{get_or_past}
use Rattle.algebra.specs.Field.{FieldOps, IsRing}
use Rattle.algebra.specs.Polynomial.{tabulate, sum_below}
use Rattle.algebra.specs.PolynomialProduct.{coefficient, product_coefficient, polynomial_product}
use Rattle.algebra.proofs.RingLaws.{mul_zero, zero_mul}
use Rattle.algebra.proofs.Lists.{length-tabulate, get_or-tabulate}

module _ {A : Type 0} (F : FieldOps A) where
  pub sum_below-equal : (n : ℕ) (f g : ℕ → A) → ((i : ℕ) → i < n → f i ≡ g i) → sum_below F n f ≡ sum_below F n g
  unfolding sum_below
  sum_below-equal zero f g h = refl
  sum_below-equal (suc n) f g h = ap₂ F.add (h zero (omega arith)) (sum_below-equal n (λ i. f (suc i)) (λ i. g (suc i)) (λ i l. h (suc i) (omega (arith, l))))

  pub product_coefficient-equal : (a b c d : List A) → ((i : ℕ) → coefficient F a i ≡ coefficient F c i) → ((i : ℕ) → coefficient F b i ≡ coefficient F d i)
      → (k : ℕ) → product_coefficient F a b k ≡ product_coefficient F c d k
  product_coefficient-equal a b c d g h k = sum_below-equal (suc k) (λ i. F.mul (coefficient F a i) (coefficient F b (k - i))) (λ i. F.mul (coefficient F c i) (coefficient F d (k - i))) (λ i l. ap₂ F.mul (g i) (h (k - i)))

module _ {A : Type 0} (F : FieldOps A) (R : IsRing F) where
  open F use {zero as 𝟘}

  pub sum_below-zero : (n : ℕ) (f : ℕ → A) → ((i : ℕ) → i < n → f i ≡ 𝟘) → sum_below F n f ≡ 𝟘
  unfolding sum_below
  sum_below-zero zero f h = refl
  sum_below-zero (suc n) f h = ap₂ F.add (h zero (omega arith)) (sum_below-zero n (λ i. f (suc i)) (λ i l. h (suc i) (omega (arith, l)))) ∙ R.add_zero 𝟘

  -- past its length a product has no coefficients
  product_coefficient-past : (a b : List A) (k : ℕ) → length a + length b - 1 ≤ k → product_coefficient F a b k ≡ 𝟘
  product_coefficient-past a b k past = sum_below-zero (suc k) (λ i. F.mul (coefficient F a i) (coefficient F b (k - i))) (λ i l. term i (omega (arith, l)))
    where
      term : (i : ℕ) → i ≤ k → F.mul (coefficient F a i) (coefficient F b (k - i)) ≡ 𝟘
      term i l =
          let s : (length a ≤ i) ⊎ (length b ≤ k - i) = grind arith in
          elim s [
            | inl h ↦ ap (λ t. F.mul t (coefficient F b (k - i))) (get_or_past a i 𝟘 h) ∙ zero_mul F R (coefficient F b (k - i))
            | inr h ↦ ap (λ t. F.mul (coefficient F a i) t) (get_or_past b (k - i) 𝟘 h) ∙ mul_zero F R (coefficient F a i)
          ]

  pub coefficient-polynomial_product : (a b : List A) (k : ℕ) → coefficient F (polynomial_product F a b) k ≡ product_coefficient F a b k
  coefficient-polynomial_product a b k =
      let n = length a + length b - 1 in
      let s : (k < length a + length b - 1) ⊎ (length a + length b - 1 ≤ k) = grind arith in
      elim s [
        | inl h ↦ get_or-tabulate n (λ i. product_coefficient F a b i) k 𝟘 h
        | inr h ↦ get_or_past (polynomial_product F a b) k 𝟘 (let e : length (tabulate n (λ i. product_coefficient F a b i)) ≡ n = length-tabulate n (λ i. product_coefficient F a b i) in omega (arith, e, h)) ∙ sym (product_coefficient-past a b k h)
      ]
