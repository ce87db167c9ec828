-- Half of a polynomial's coefficients, with the other half times a power of the point added.
use Rattle.std.proofs.Common.{◌≡◌, ℕ, zero, suc, ◌+◌, ◌-◌, ◌*◌, ◌^◌, ◌<◌, ◌≤◌, List}
use Rattle.std.proofs.Common.{get_or, take, refl, sym, ap, ap₂, ◌∙◌, arith, suc-add, zero-add}
use Rattle.std.proofs.lemmas.List.{get_or-take}
use Rattle.std.proofs.lemmas.Nat.{row_fits, pow-add}
use Rattle.algebra.specs.Field.{FieldOps, IsRing, pow}
use Rattle.algebra.specs.Polynomial.{val, tabulate}
use Rattle.algebra.proofs.Ring.{◌:+◌, ◌:*◌, ◌:=◌, ring, o, :1}
use Rattle.algebra.proofs.Powers.{pow-zero, pow-suc_is, pow-mul}
use Rattle.algebra.proofs.Values.{val-nil, val-cons}
use Rattle.algebra.proofs.Lists.{tabulate-equal}
use Rattle.p3_dft.specs.Strided.{strided}
use Rattle.p3_dft.proofs.Sizes.{double_next}

module _ {A : Type 0} (F : FieldOps A) (R : IsRing F) where
  infixl 65 ◌⊕◌
  infixl 70 ◌⊗◌
  open F use {zero as 𝟘, one as 𝟙, add as ◌⊕◌, mul as ◌⊗◌}

  -- the lower coefficients, and the others
  val-tabulate_parts : (m n : ℕ) (f : ℕ → A) (x : A) → val F (tabulate (m + n) f) x
      ≡ val F (tabulate m f) x ⊕ pow F x m ⊗ val F (tabulate n (λ i. f (m + i))) x
  val-tabulate_parts zero n f x =
      ap (λ k. val F (tabulate k f) x) (zero-add n)
      ∙ ap (λ c. val F c x)
      (tabulate-equal n f (λ i. f (0 + i)) (λ i _. ap f (let e : i ≡ 0 + i = omega arith in e)))
      ∙ rw (val-nil F R x, pow-zero F x) (ring F R 1 (λ v. v := o :+ :1 :* v) refl
      (val F (tabulate n (λ i. f (0 + i))) x))
  val-tabulate_parts (suc m) n f x =
      ap (λ k. val F (tabulate k f) x) (suc-add m n)
      ∙ val-cons F R (f zero) (tabulate (m + n) (λ i. f (suc i))) x
      ∙ ap (λ v. f zero ⊕ x ⊗ v) (val-tabulate_parts m n (λ i. f (suc i)) x
      ∙ ap (λ c. val F (tabulate m (λ i. f (suc i))) x ⊕ pow F x m ⊗ val F c x)
      (tabulate-equal n (λ i. f (suc (m + i))) (λ i. f (suc m + i))
      (λ i _. ap f (let e : suc (m + i) ≡ suc m + i = omega arith in e))))
      ∙ ring F R 5 (λ c x v p u. c :+ x :* (v :+ p :* u) := (c :+ x :* v) :+ (x :* p) :* u) refl
      (f zero) x (val F (tabulate m (λ i. f (suc i))) x) (pow F x m)
      (val F (tabulate n (λ i. f (suc m + i))) x)
      ∙ ap₂ (λ v p. v ⊕ p ⊗ val F (tabulate n (λ i. f (suc m + i))) x)
      (sym (val-cons F R (f zero) (tabulate m (λ i. f (suc i))) x)) (sym (pow-suc_is F x m))

  val-tabulate_sum : (n : ℕ) (f g : ℕ → A) (z x : A) → val F (tabulate n (λ i. f i ⊕ g i ⊗ z)) x
      ≡ val F (tabulate n f) x ⊕ z ⊗ val F (tabulate n g) x
  val-tabulate_sum zero f g z x =
      rw (val-nil F R x) (ring F R 1 (λ z. o := o :+ z :* o) refl z)
  val-tabulate_sum (suc n) f g z x =
      val-cons F R (f zero ⊕ g zero ⊗ z) (tabulate n (λ i. f (suc i) ⊕ g (suc i) ⊗ z)) x
      ∙ ap (λ v. f zero ⊕ g zero ⊗ z ⊕ x ⊗ v)
      (val-tabulate_sum n (λ i. f (suc i)) (λ i. g (suc i)) z x)
      ∙ ring F R 6 (λ c d z x v u.
      (c :+ d :* z) :+ x :* (v :+ z :* u) := (c :+ x :* v) :+ z :* (d :+ x :* u)) refl
      (f zero) (g zero) z x (val F (tabulate n (λ i. f (suc i))) x)
      (val F (tabulate n (λ i. g (suc i))) x)
      ∙ ap₂ (λ v u. v ⊕ z ⊗ u) (sym (val-cons F R (f zero) (tabulate n (λ i. f (suc i))) x))
      (sym (val-cons F R (g zero) (tabulate n (λ i. g (suc i))) x))

  val-halved : (n : ℕ) (f g : ℕ → A) (z x : A) → pow F x n ≡ z
      → ((i : ℕ) → i < n → g i ≡ f i ⊕ f (n + i) ⊗ z)
      → val F (tabulate n g) x ≡ val F (tabulate (n + n) f) x
  val-halved n f g z x power each =
      ap (λ c. val F c x) (tabulate-equal n g (λ i. f i ⊕ f (n + i) ⊗ z) each)
      ∙ val-tabulate_sum n f (λ i. f (n + i)) z x
      ∙ ap (λ p. val F (tabulate n f) x ⊕ p ⊗ val F (tabulate n (λ i. f (n + i))) x) (sym power)
      ∙ sym (val-tabulate_parts n n f x)

  -- column by column, where rows lie one after another
  pub halved_column : (width k : ℕ) (xs ys : List A) (z : A)
      → ((n : ℕ) → n < 2 ^ k * width
      → get_or ys n 𝟘 ≡ get_or xs n 𝟘 ⊕ get_or xs (n + 2 ^ k * width) 𝟘 ⊗ z)
      → (j : ℕ) (x : A) → j < width → pow F x (2 ^ k) ≡ z
      → val F (strided F width (2 ^ k) (take (2 ^ k * width) ys) j) x
      ≡ val F (strided F width (2 ^ (k + 1)) xs j) x
  halved_column width k xs ys z each j x l power =
      val-halved (2 ^ k) (λ i. get_or xs (i * width + j) 𝟘)
      (λ i. get_or (take (2 ^ k * width) ys) (i * width + j) 𝟘) z x power
      (λ i b.
      let within : i * width + j < 2 ^ k * width =
      omega (arith, l, row_fits i width (2 ^ k) width b (omega arith)) in
      get_or-take (2 ^ k * width) ys (i * width + j) 𝟘 within
      ∙ each (i * width + j) within
      ∙ ap (λ n. get_or xs (i * width + j) 𝟘 ⊕ get_or xs n 𝟘 ⊗ z)
      (let e : i * width + j + 2 ^ k * width ≡ (2 ^ k + i) * width + j = omega arith in e))
      ∙ ap (λ n. val F (strided F width n xs j) x) (sym (double_next k))

  -- equal powers stay equal
  pub powers_agree : (x y : A) (m k : ℕ) → m ≤ k → pow F x (2 ^ m) ≡ pow F y (2 ^ m)
      → pow F x (2 ^ k) ≡ pow F y (2 ^ k)
  powers_agree x y m k l e =
      let split : 2 ^ k ≡ 2 ^ (k - m) * 2 ^ m =
      ap (λ n. 2 ^ n) (let s : k ≡ k - m + m = omega (arith, l) in s) ∙ pow-add 2 (k - m) m in
      ap (λ n. pow F x n) split ∙ pow-mul F R x (2 ^ (k - m)) (2 ^ m)
      ∙ ap (λ p. pow F p (2 ^ (k - m))) e
      ∙ sym (pow-mul F R y (2 ^ (k - m)) (2 ^ m)) ∙ ap (λ n. pow F y n) (sym split)

pub both_halves : (k width : ℕ) → 2 ^ (k + 1) * width ≡ 2 ^ k * width + 2 ^ k * width
both_halves k width = ap (λ n. n * width) (double_next k) ∙ omega arith
