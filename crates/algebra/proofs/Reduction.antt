-- On a coset of `2^k` points a polynomial has the values of what it is modulo
-- `X^(2^k) - shift^(2^k)`.
use Rattle.std.proofs.Common.{◌≡◌, ℕ, zero, suc, ◌+◌, ◌-◌, ◌*◌, ◌^◌, ◌<◌, ◌≤◌, List}
use Rattle.std.proofs.Common.{length, refl, sym, ap, ap₂, ◌∙◌, arith, pow_pos}
use Rattle.std.proofs.lemmas.List.{get_or_past}
use Rattle.algebra.specs.Field.{FieldOps, IsRing, IsField, pow}
use Rattle.algebra.specs.Polynomial.{val, sum_below}
use Rattle.algebra.specs.PolynomialProduct.{coefficient}
use Rattle.algebra.specs.TwoAdic.{AreRoots}
use Rattle.algebra.specs.Cosets.{coset_pt}
use Rattle.algebra.specs.Words.{coset_word}
use Rattle.algebra.specs.Reduction.{reduced}
use Rattle.algebra.proofs.RingLaws.{zero_add, zero_mul}
use Rattle.algebra.proofs.Ring.{◌:*◌, ◌:=◌, ring}
use Rattle.algebra.proofs.Powers.{pow-add, pow-mul}
use Rattle.algebra.proofs.PointTest.{coset_power}
use Rattle.algebra.proofs.PolynomialProduct.{sum_below-equal, sum_below-zero}
use Rattle.algebra.proofs.Sums.{val-tabulate, sum_below-factor, sum_below-swap}
use Rattle.algebra.proofs.Lists.{tabulate-equal}

module _ {A : Type 0} (F : FieldOps A) (R : IsRing F) where
  infixl 65 ◌⊕◌
  infixl 70 ◌⊗◌
  open F use {zero as 𝟘, add as ◌⊕◌, mul as ◌⊗◌}

  -- a sum in two parts
  pub sum_below-append : (m n : ℕ) (f : ℕ → A)
      → sum_below F (m + n) f ≡ sum_below F m f ⊕ sum_below F n (λ i. f (m + i))
  unfolding sum_below
  sum_below-append zero n f =
      ap (λ k. sum_below F k f) (let e : 0 + n ≡ n = omega arith in e)
      ∙ sum_below-equal F n f (λ i. f (0 + i)) (λ i _. ap f (let e : i ≡ 0 + i = omega arith in e))
      ∙ sym (zero_add F R (sum_below F n (λ i. f (0 + i))))
  sum_below-append (suc m) n f =
      ap (λ k. sum_below F k f) (let e : suc m + n ≡ suc (m + n) = omega arith in e)
      ∙ ap (λ s. f zero ⊕ s) (sum_below-append m n (λ i. f (suc i)))
      ∙ sym (R.add_assoc (f zero) (sum_below F m (λ i. f (suc i)))
      (sum_below F n (λ i. f (suc (m + i)))))
      ∙ ap (λ s. f zero ⊕ sum_below F m (λ i. f (suc i)) ⊕ s)
      (sum_below-equal F n (λ i. f (suc (m + i))) (λ i. f (suc m + i))
      (λ i _. ap f (let e : suc (m + i) ≡ suc m + i = omega arith in e)))

  -- a sum block by block
  sum_below-blocks : (d n : ℕ) (f : ℕ → A)
      → sum_below F (d * n) f ≡ sum_below F d (λ j. sum_below F n (λ i. f (i + j * n)))
  unfolding sum_below
  sum_below-blocks zero n f = ap (λ k. sum_below F k f) (let e : 0 * n ≡ 0 = omega arith in e)
  sum_below-blocks (suc d) n f =
      ap (λ k. sum_below F k f) (let e : suc d * n ≡ n + d * n = omega arith in e)
      ∙ sum_below-append n (d * n) f
      ∙ ap₂ (λ s t. s ⊕ t) (sum_below-equal F n f (λ i. f (i + 0 * n))
      (λ i _. ap f (let e : i ≡ i + 0 * n = omega arith in e)))
      (sum_below-blocks d n (λ i. f (n + i))
      ∙ sum_below-equal F d (λ j. sum_below F n (λ i. f (n + (i + j * n))))
      (λ j. sum_below F n (λ i. f (i + suc j * n)))
      (λ j _. sum_below-equal F n (λ i. f (n + (i + j * n))) (λ i. f (i + suc j * n))
      (λ i _. ap f (let e : n + (i + j * n) ≡ i + suc j * n = omega arith in e))))

  -- more terms, all zero
  sum_below-padded : (m n : ℕ) (f : ℕ → A) → m ≤ n → ((i : ℕ) → m ≤ i → f i ≡ 𝟘)
      → sum_below F n f ≡ sum_below F m f
  sum_below-padded m n f l h =
      ap (λ k. sum_below F k f) (let e : n ≡ m + (n - m) = omega (arith, l) in e)
      ∙ sum_below-append m (n - m) f
      ∙ ap (λ s. sum_below F m f ⊕ s)
      (sum_below-zero F R (n - m) (λ i. f (m + i)) (λ i _. h (m + i) (omega arith)))
      ∙ R.add_zero (sum_below F m f)

  -- where `x^n` is `z`, the polynomial has there the value of what it is modulo `X^n - z`
  pub val-reduced : (n : ℕ) (z : A) (c : List A) (x : A) → 0 < n → pow F x n ≡ z
      → val F (reduced F n z c) x ≡ val F c x
  unfolding reduced val
  val-reduced n z c x p e =
      val-tabulate F n (λ i. sum_below F d (λ j. coefficient F c (i + j * n) ⊗ pow F z j)) x
      ∙ sum_below-equal F n
      (λ i. sum_below F d (λ j. coefficient F c (i + j * n) ⊗ pow F z j) ⊗ pow F x i)
      (λ i. sum_below F d (λ j. term (i + j * n)))
      (λ i _. R.mul_comm (sum_below F d (λ j. coefficient F c (i + j * n) ⊗ pow F z j)) (pow F x i)
      ∙ sym (sum_below-factor F R (pow F x i) d (λ j. coefficient F c (i + j * n) ⊗ pow F z j))
      ∙ sum_below-equal F d (λ j. pow F x i ⊗ (coefficient F c (i + j * n) ⊗ pow F z j))
      (λ j. term (i + j * n)) (λ j _. power i j))
      ∙ sum_below-swap F R n d (λ i j. term (i + j * n))
      ∙ sym (sum_below-blocks d n term)
      ∙ sum_below-padded d (d * n) term (enough d n p)
      (λ i l. ap (λ a. a ⊗ pow F x i) (get_or_past c i 𝟘 l) ∙ zero_mul F R (pow F x i))
    where
      d : ℕ
      d = length c

      term : ℕ → A
      term m = coefficient F c m ⊗ pow F x m

      power : (i j : ℕ) → pow F x i ⊗ (coefficient F c (i + j * n) ⊗ pow F z j) ≡ term (i + j * n)
      power i j =
          ap (λ y. pow F x i ⊗ (coefficient F c (i + j * n) ⊗ y))
          (ap (λ y. pow F y j) (sym e) ∙ sym (pow-mul F R x j n))
          ∙ ring F R 3 (λ p c q. p :* (c :* q) := c :* (p :* q)) refl (pow F x i)
          (coefficient F c (i + j * n)) (pow F x (j * n))
          ∙ ap (λ y. coefficient F c (i + j * n) ⊗ y) (sym (pow-add F R x i (j * n)))

      enough : (d n : ℕ) → 0 < n → d ≤ d * n
      enough d n p = grind arith

module _ {A : Type 0} (F : FieldOps A) (L : IsField F) (top : ℕ) (w : ℕ → A)
    (W : AreRoots F top w) where
  infixl 70 ◌⊗◌
  open F use {mul as ◌⊗◌}

  at_point : (shift : A) (k i : ℕ) (c : List A) → k ≤ top
      → val F (reduced F (2 ^ k) (pow F shift (2 ^ k)) c) (coset_pt F w shift i k)
      ≡ val F c (coset_pt F w shift i k)
  at_point shift k i c b =
      val-reduced F L.ring (2 ^ k) (pow F shift (2 ^ k)) c (coset_pt F w shift i k) (pow_pos k)
      (coset_power F L top w W shift i k b)

  -- in bit-reversed order
  pub coset_word-reduced : (shift : A) (k : ℕ) (c : List A) → k ≤ top
      → coset_word F w shift k (reduced F (2 ^ k) (pow F shift (2 ^ k)) c)
      ≡ coset_word F w shift k c
  coset_word-reduced shift k c b =
      tabulate-equal (2 ^ k)
      (λ i. val F (reduced F (2 ^ k) (pow F shift (2 ^ k)) c) (coset_pt F w shift i k))
      (λ i. val F c (coset_pt F w shift i k))
      (λ i _. at_point shift k i c b)
