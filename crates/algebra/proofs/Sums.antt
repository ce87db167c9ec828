-- Sums over the numbers below a bound.
use Rattle.std.proofs.Common.{◌≡◌, ◌≢◌, ℕ, zero, suc, ◌<◌, get_or, refl, sym, ap, ap₂, ◌∙◌, arith}
use Rattle.algebra.specs.Field.{FieldOps, IsRing, IsField, pow, multiple, sub}
use Rattle.algebra.specs.Polynomial.{val, tabulate, sum_below}
use Rattle.algebra.proofs.Ring.{◌:+◌, ◌:-◌, ◌:*◌, ◌:=◌, ring, o, :1}
use Rattle.algebra.proofs.RingLaws.{mul_zero, zero_add}
use Rattle.algebra.proofs.Combine.{sub-self, sub-eq, cancel_zero}
use Rattle.algebra.proofs.Lists.{length-tabulate, get_or-tabulate}
use Rattle.algebra.proofs.PolynomialProduct.{sum_below-equal, sum_below-zero}

-- the value of a polynomial whose coefficients are given by an index
pub val-tabulate : {A : Type 0} (F : FieldOps A) (n : ℕ) (c : ℕ → A) (x : A) → val F (tabulate n c) x ≡ sum_below F n (λ i. F.mul (c i) (pow F x i))
unfolding val
val-tabulate F n c x =
    ap (λ m. sum_below F m (λ i. F.mul (get_or (tabulate n c) i F.zero) (pow F x i))) (length-tabulate n c)
    ∙ sum_below-equal F n (λ i. F.mul (get_or (tabulate n c) i F.zero) (pow F x i)) (λ i. F.mul (c i) (pow F x i))
    (λ i l. ap (λ a. F.mul a (pow F x i)) (get_or-tabulate n c i F.zero l))

module _ {A : Type 0} (F : FieldOps A) (R : IsRing F) where
  infixl 65 ◌⊕◌
  infixl 70 ◌⊗◌
  open F use {zero as 𝟘, one as 𝟙, add as ◌⊕◌, mul as ◌⊗◌}

  pub sum_below-factor : (k : A) (n : ℕ) (f : ℕ → A) → sum_below F n (λ i. k ⊗ f i) ≡ k ⊗ sum_below F n f
  unfolding sum_below
  sum_below-factor k zero f = sym (mul_zero F R k)
  sum_below-factor k (suc n) f = ap (λ s. k ⊗ f zero ⊕ s) (sum_below-factor k n (λ i. f (suc i))) ∙ sym (R.mul_add k (f zero) (sum_below F n (λ i. f (suc i))))

  pub sum_below-add : (n : ℕ) (f g : ℕ → A) → sum_below F n (λ i. f i ⊕ g i) ≡ sum_below F n f ⊕ sum_below F n g
  unfolding sum_below
  sum_below-add zero f g = sym (R.add_zero 𝟘)
  sum_below-add (suc n) f g =
      ap (λ s. f zero ⊕ g zero ⊕ s) (sum_below-add n (λ i. f (suc i)) (λ i. g (suc i)))
      ∙ ring F R 4 (λ a b s t. a :+ b :+ (s :+ t) := a :+ s :+ (b :+ t)) refl (f zero) (g zero) (sum_below F n (λ i. f (suc i))) (sum_below F n (λ i. g (suc i)))

  -- two sums in the other order
  pub sum_below-swap : (n m : ℕ) (f : ℕ → ℕ → A) → sum_below F n (λ i. sum_below F m (λ j. f i j)) ≡ sum_below F m (λ j. sum_below F n (λ i. f i j))
  unfolding sum_below
  sum_below-swap zero m f = sym (sum_below-zero F R m (λ j. 𝟘) (λ j l. refl))
  sum_below-swap (suc n) m f =
      ap (λ s. sum_below F m (λ j. f zero j) ⊕ s) (sum_below-swap n m (λ i j. f (suc i) j))
      ∙ sym (sum_below-add m (λ j. f zero j) (λ j. sum_below F n (λ i. f (suc i) j)))

  -- a sum of which one term alone isn't zero
  pub sum_below-single : (n : ℕ) (f : ℕ → A) (k : ℕ) → k < n → ((i : ℕ) → i < n → i ≢ k → f i ≡ 𝟘) → sum_below F n f ≡ f k
  unfolding sum_below
  sum_below-single zero f k b h = absurd (omega (arith, b))
  sum_below-single (suc n) f zero b h =
      ap (λ s. f zero ⊕ s) (sum_below-zero F R n (λ i. f (suc i)) (λ i l. h (suc i) (omega (arith, l)) (λ e. omega (arith, e))))
      ∙ R.add_zero (f zero)
  sum_below-single (suc n) f (suc k) b h =
      ap₂ F.add (h zero (omega arith) (λ e. omega (arith, e)))
      (sum_below-single n (λ i. f (suc i)) k (omega (arith, b)) (λ i l other. h (suc i) (omega (arith, l)) (λ e. other (omega (arith, e)))))
      ∙ zero_add F R (f (suc k))

  pub sum_below-ones : (n : ℕ) → sum_below F n (λ i. 𝟙) ≡ multiple F n
  unfolding sum_below multiple
  sum_below-ones zero = refl
  sum_below-ones (suc n) = R.add_comm 𝟙 (sum_below F n (λ i. 𝟙)) ∙ ap (λ s. s ⊕ 𝟙) (sum_below-ones n)

  -- the geometric sum
  sum_below-powers : (x : A) (n : ℕ) → sum_below F n (λ i. pow F x i) ⊕ pow F x n ≡ 𝟙 ⊕ x ⊗ sum_below F n (λ i. pow F x i)
  unfolding sum_below pow
  sum_below-powers x zero = ring F R 1 (λ x. o :+ :1 := :1 :+ x :* o) refl x
  sum_below-powers x (suc n) =
      let s = sum_below F n (λ i. pow F x i) in
      let all : sum_below F (suc n) (λ i. pow F x i) ≡ 𝟙 ⊕ x ⊗ s = ap (λ t. 𝟙 ⊕ t) (sum_below-factor x n (λ i. pow F x i)) in
      ap (λ t. t ⊕ x ⊗ pow F x n) all
      ∙ ring F R 3 (λ x s p. :1 :+ x :* s :+ x :* p := :1 :+ x :* (s :+ p)) refl x s (pow F x n)
      ∙ ap (λ t. 𝟙 ⊕ x ⊗ t) (sum_below-powers x n ∙ sym all)

-- the powers of a root of unity other than one add up to zero
pub sum_below-turn : {A : Type 0} (F : FieldOps A) → IsField F → (x : A) (n : ℕ) → pow F x n ≡ F.one → x ≢ F.one → sum_below F n (λ i. pow F x i) ≡ F.zero
sum_below-turn F L x n turn other =
    let s = sum_below F n (λ i. pow F x i) in
    cancel_zero F L (sub F x F.one) s (λ e. other (sub-eq F L.ring e))
    (ring F L.ring 2 (λ x s. (x :- :1) :* s := :1 :+ x :* s :- (s :+ :1)) refl x s
    ∙ ap (λ t. sub F t (F.add s F.one)) (sym (sum_below-powers F L.ring x n) ∙ ap (λ p. F.add s p) turn)
    ∙ sub-self F L.ring (F.add s F.one))
