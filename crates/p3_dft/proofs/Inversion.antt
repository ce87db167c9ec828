-- The values at the inverse powers of a root of unity, of the polynomial of the values at its
-- powers, are the
-- coefficients, each `n` times.
use Rattle.std.proofs.Common.{◌≡◌, ◌≢◌, ℕ, ◌<◌, refl, sym, ap, ap₂, ◌∙◌, mul_comm}
use Rattle.algebra.specs.Field.{FieldOps, IsField, pow, multiple}
use Rattle.algebra.specs.Polynomial.{val, tabulate, sum_below}
use Rattle.algebra.proofs.Ring.{◌:*◌, ◌:=◌, ring}
use Rattle.algebra.proofs.RingLaws.{mul_zero, one_mul}
use Rattle.algebra.proofs.Powers.{pow-times, pow-mul, pow-one_base}
use Rattle.algebra.proofs.PolynomialProduct.{sum_below-equal}
use Rattle.algebra.proofs.Sums.{val-tabulate, sum_below-factor, sum_below-swap, sum_below-single}
use Rattle.algebra.proofs.Sums.{sum_below-ones, sum_below-turn}

module _ {A : Type 0} (F : FieldOps A) (L : IsField F) (n : ℕ) (w u size_inverse : A)
    (inverse : F.mul w u ≡ F.one) (turn : pow F w n ≡ F.one)
    (differ : (i j : ℕ) → i < n → j < n → pow F w i ≡ pow F w j → i ≡ j)
    (size : F.mul (multiple F n) size_inverse ≡ F.one) where
  infixl 65 ◌⊕◌
  infixl 70 ◌⊗◌
  open F use {zero as 𝟘, one as 𝟙, add as ◌⊕◌, mul as ◌⊗◌}

  inverse_powers : (i : ℕ) → pow F w i ⊗ pow F u i ≡ 𝟙
  inverse_powers i = pow-times F L.ring w u i ∙ ap (λ x. pow F x i) inverse ∙ pow-one_base F L.ring i

  -- the quotient of two powers of the root
  quotient_of : ℕ → ℕ → A
  quotient_of t l = pow F u t ⊗ pow F w l

  quotient_same : (l : ℕ) → quotient_of l l ≡ 𝟙
  unfolding quotient_of
  quotient_same l = L.mul_comm (pow F u l) (pow F w l) ∙ inverse_powers l

  quotient_turns : (t l : ℕ) → pow F (quotient_of t l) n ≡ 𝟙
  unfolding quotient_of
  quotient_turns t l =
      sym (pow-times F L.ring (pow F u t) (pow F w l) n)
      ∙ ap₂ (λ x y. x ⊗ y) (turned u t turn_inverse) (turned w l turn)
      ∙ L.mul_one 𝟙
    where
      turned : (x : A) (t : ℕ) → pow F x n ≡ 𝟙 → pow F (pow F x t) n ≡ 𝟙
      turned x t e = sym (pow-mul F L.ring x n t) ∙ ap (λ m. pow F x m) (mul_comm n t) ∙ pow-mul F L.ring x t n ∙ ap (λ y. pow F y t) e ∙ pow-one_base F L.ring t

      turn_inverse : pow F u n ≡ 𝟙
      turn_inverse = sym (one_mul F L.ring (pow F u n)) ∙ ap (λ x. x ⊗ pow F u n) (sym turn) ∙ inverse_powers n

  quotient_other : (t l : ℕ) → t < n → l < n → t ≢ l → quotient_of t l ≢ 𝟙
  unfolding quotient_of
  quotient_other t l b c other e =
      other (differ t l b c (
      sym (L.mul_one (pow F w t))
      ∙ ap (λ x. pow F w t ⊗ x) (sym e)
      ∙ sym (L.mul_assoc (pow F w t) (pow F u t) (pow F w l))
      ∙ ap (λ x. x ⊗ pow F w l) (inverse_powers t)
      ∙ one_mul F L.ring (pow F w l)
      ))

  -- the sum of the powers of a quotient: `n` for one, and zero for the others
  sum_of : ℕ → ℕ → A
  sum_of t l = sum_below F n (λ i. pow F (quotient_of t l) i)

  sum_same : (l : ℕ) → sum_of l l ≡ multiple F n
  unfolding sum_of
  sum_same l = sum_below-equal F n (λ i. pow F (quotient_of l l) i) (λ i. 𝟙) (λ i b. ap (λ x. pow F x i) (quotient_same l) ∙ pow-one_base F L.ring i) ∙ sum_below-ones F L.ring n

  sum_other : (t l : ℕ) → t < n → l < n → t ≢ l → sum_of t l ≡ 𝟘
  unfolding sum_of
  sum_other t l b c other = sum_below-turn F L (quotient_of t l) n (quotient_turns t l) (quotient_other t l b c other)

  module _ (y : ℕ → A) where
    -- the coefficients, from the values `y`
    coefficient_of : ℕ → A
    coefficient_of i = size_inverse ⊗ val F (tabulate n y) (pow F u i)

    term : (i l : ℕ) → coefficient_of i ⊗ pow F (pow F w l) i ≡ size_inverse ⊗ sum_below F n (λ t. y t ⊗ pow F (quotient_of t l) i)
    unfolding coefficient_of quotient_of
    term i l =
        ap (λ v. size_inverse ⊗ v ⊗ pow F (pow F w l) i) (val-tabulate F n y (pow F u i))
        ∙ ring F L.ring 3 (λ s v p. s :* v :* p := s :* (p :* v)) refl size_inverse (sum_below F n (λ t. y t ⊗ pow F (pow F u i) t)) (pow F (pow F w l) i)
        ∙ ap (λ v. size_inverse ⊗ v) (
        sym (sum_below-factor F L.ring (pow F (pow F w l) i) n (λ t. y t ⊗ pow F (pow F u i) t))
        ∙ sum_below-equal F n (λ t. pow F (pow F w l) i ⊗ (y t ⊗ pow F (pow F u i) t)) (λ t. y t ⊗ pow F (pow F u t ⊗ pow F w l) i) (λ t b. one_term t)
        )
      where
        exchanged : (t : ℕ) → pow F (pow F u i) t ≡ pow F (pow F u t) i
        exchanged t = sym (pow-mul F L.ring u t i) ∙ ap (λ m. pow F u m) (mul_comm t i) ∙ pow-mul F L.ring u i t

        one_term : (t : ℕ) → pow F (pow F w l) i ⊗ (y t ⊗ pow F (pow F u i) t) ≡ y t ⊗ pow F (pow F u t ⊗ pow F w l) i
        one_term t =
            ap (λ p. pow F (pow F w l) i ⊗ (y t ⊗ p)) (exchanged t)
            ∙ ring F L.ring 3 (λ p y q. p :* (y :* q) := y :* (q :* p)) refl (pow F (pow F w l) i) (y t) (pow F (pow F u t) i)
            ∙ ap (λ p. y t ⊗ p) (pow-times F L.ring (pow F u t) (pow F w l) i)

    -- the polynomial of these coefficients has the values `y`
    pub inverted : (l : ℕ) → l < n → val F (tabulate n (λ i. size_inverse ⊗ val F (tabulate n y) (pow F u i))) (pow F w l) ≡ y l
    unfolding coefficient_of sum_of
    inverted l b =
        val-tabulate F n coefficient_of (pow F w l)
        ∙ sum_below-equal F n (λ i. coefficient_of i ⊗ pow F (pow F w l) i) (λ i. size_inverse ⊗ sum_below F n (λ t. y t ⊗ pow F (quotient_of t l) i)) (λ i _. term i l)
        ∙ sum_below-factor F L.ring size_inverse n (λ i. sum_below F n (λ t. y t ⊗ pow F (quotient_of t l) i))
        ∙ ap (λ s. size_inverse ⊗ s) (
        sum_below-swap F L.ring n n (λ i t. y t ⊗ pow F (quotient_of t l) i)
        ∙ sum_below-equal F n (λ t. sum_below F n (λ i. y t ⊗ pow F (quotient_of t l) i)) (λ t. y t ⊗ sum_of t l) (λ t _. sum_below-factor F L.ring (y t) n (λ i. pow F (quotient_of t l) i))
        ∙ sum_below-single F L.ring n (λ t. y t ⊗ sum_of t l) l b (λ t c other. ap (λ s. y t ⊗ s) (sum_other t l c b other) ∙ mul_zero F L.ring (y t))
        ∙ ap (λ s. y l ⊗ s) (sum_same l)
        )
        ∙ ring F L.ring 3 (λ s y m. s :* (y :* m) := y :* (m :* s)) refl size_inverse (y l) (multiple F n)
        ∙ ap (λ p. y l ⊗ p) size
        ∙ L.mul_one (y l)
