-- The elements of a basis, by their coefficients.
use Rattle.std.proofs.Common.{◌≡◌, ℕ, ◌<◌, ◌==◌, cond, List, length, get_or, set, inl, inr, sym, ap, ◌∙◌, arith, length-set}
use Rattle.std.proofs.lemmas.Bool.Decides.{eqb_tells}
use Rattle.std.proofs.lemmas.Grind.{get_or-set_at}
use Rattle.std.proofs.lemmas.List.{get_or-set_other, ext_get_or}
use Rattle.algebra.specs.Field.{FieldOps, IsRing, IsHomomorphism}
use Rattle.algebra.specs.Polynomial.{tabulate, sum_below}
use Rattle.algebra.proofs.RingLaws.{zero_mul}
use Rattle.algebra.proofs.Lists.{length-tabulate, get_or-tabulate}
use Rattle.algebra.proofs.PolynomialProduct.{sum_below-zero}
use Rattle.p3_field_core.specs.Basis.{unit_vector}

abbrev zeros : {A : Type 0} → FieldOps A → ℕ → List A
zeros F n = tabulate n (λ _. F.zero)

module _ {A : Type 0} (F : FieldOps A) (n i : ℕ) (l : i < n) where
  long : length (zeros F n) ≡ n
  long = length-tabulate n (λ _. F.zero)

  entry : (k : ℕ) → k < n
      → get_or (set (zeros F n) i F.one) k F.zero ≡ get_or (unit_vector F n i) k F.zero
  entry k m = elim (eqb_tells k i) [
    | inl y ↦ get_or-set_at (zeros F n) i k F.one F.zero y.1 (omega (arith, l, long))
        ∙ sym (get_or-tabulate n (λ k. cond (k == i) F.one F.zero) k F.zero m
        ∙ ap (λ b. cond b F.one F.zero) y.0)
    | inr y ↦ get_or-set_other (zeros F n) i k F.one F.zero y.1
        ∙ get_or-tabulate n (λ _. F.zero) k F.zero m
        ∙ sym (get_or-tabulate n (λ k. cond (k == i) F.one F.zero) k F.zero m
        ∙ ap (λ b. cond b F.one F.zero) y.0)
  ]

  -- one in the place of one of the zeros
  pub unit_is : set (zeros F n) i F.one ≡ unit_vector F n i
  unit_is = ext_get_or F.zero (set (zeros F n) i F.one) (unit_vector F n i)
      (length-set (zeros F n) i F.one ∙ long
      ∙ sym (length-tabulate n (λ k. cond (k == i) F.one F.zero)))
      (λ k m. entry k (omega (arith, m, length-set (zeros F n) i F.one, long)))

-- where each element is the sum of its coefficients times those of a basis, the coefficients of
-- zero are zeros
module _ {A E : Type 0} (F : FieldOps A) (K : FieldOps E) (R : IsRing K) (lift : A → E)
    (H : IsHomomorphism F K lift) (n : ℕ) (coefficients : E → List A) (of_coefficients : List A → E)
    (these : (xs : List A) → length xs ≡ n → coefficients (of_coefficients xs) ≡ xs)
    (basis : ℕ → E) (by_basis : (x : E) → x ≡ sum_below K n (λ k.
    K.mul (lift (get_or (coefficients x) k F.zero)) (basis k))) where
  are : coefficients (of_coefficients (zeros F n)) ≡ zeros F n
  are = these (zeros F n) (length-tabulate n (λ _. F.zero))

  is_zero : of_coefficients (zeros F n) ≡ K.zero
  is_zero =
      by_basis (of_coefficients (zeros F n))
      ∙ sum_below-zero K R n (λ k. K.mul (lift (get_or (coefficients (of_coefficients (zeros F n))) k F.zero)) (basis k))
      (λ k l. ap (λ c. K.mul (lift c) (basis k))
      (ap (λ cs. get_or cs k F.zero) are ∙ get_or-tabulate n (λ _. F.zero) k F.zero l)
      ∙ ap (λ c. K.mul c (basis k)) H.zero ∙ zero_mul K R (basis k))

  -- zero with a one among its coefficients
  pub basis_element_is : (z x : E) (one : A) (i : ℕ) → i < n → z ≡ K.zero → one ≡ F.one
      → coefficients x ≡ set (coefficients z) i one → coefficients x ≡ unit_vector F n i
  basis_element_is z x one i l e f g =
      g ∙ ap (λ a. set (coefficients z) i a) f
      ∙ ap (λ cs. set cs i F.one) (ap coefficients (e ∙ sym is_zero) ∙ are) ∙ unit_is F n i l
