-- Laws of powers and of multiples of one.
use Rattle.std.proofs.Common.{◌≡◌, ℕ, zero, suc, ◌+◌, ◌*◌, ◌/◌, ◌%◌, ◌^◌, refl, sym, ap, ap₂, ◌∙◌}
use Rattle.std.proofs.Common.{arith, suc-add, zero-add, suc-mul, zero-mul, pow-suc}
use Rattle.algebra.specs.Field.{FieldOps, IsRing, IsField, IsHomomorphism, multiple, pow}
use Rattle.algebra.proofs.RingLaws.{one_mul}
use Rattle.algebra.proofs.Ring.{◌:*◌, ◌:=◌, ring}
use Rattle.algebra.proofs.Combine.{cancel_zero}

pub double : (k : ℕ) → 2 ^ suc k ≡ 2 ^ k + 2 ^ k
double k = rw (pow-suc 2 k) (omega arith)

module _ {A : Type 0} (F : FieldOps A) where
  infixl 70 ◌⊗◌
  open F use {one as 𝟙, mul as ◌⊗◌}

  pub pow-zero : (x : A) → pow F x 0 ≡ 𝟙
  unfolding pow
  pow-zero x = refl

  pub pow-suc_is : (x : A) (n : ℕ) → pow F x (suc n) ≡ x ⊗ pow F x n
  unfolding pow
  pow-suc_is x n = refl

  -- the form in which a loop that counts up meets it
  pub pow-next : (x : A) (n : ℕ) → pow F x (n + 1) ≡ x ⊗ pow F x n
  pow-next x n = ap (λ m. pow F x m) (omega arith) ∙ pow-suc_is x n

module _ {A : Type 0} (F : FieldOps A) (R : IsRing F) where
  infixl 65 ◌⊕◌
  infixl 70 ◌⊗◌
  open F use {zero as 𝟘, one as 𝟙, add as ◌⊕◌, mul as ◌⊗◌, neg}

  pub pow-one : (x : A) → pow F x 1 ≡ x
  unfolding pow
  pow-one x = R.mul_one x

  pub pow-one_base : (n : ℕ) → pow F 𝟙 n ≡ 𝟙
  unfolding pow
  pow-one_base zero = refl
  pow-one_base (suc n) = one_mul F R (pow F 𝟙 n) ∙ pow-one_base n

  pub pow-add : (x : A) (m n : ℕ) → pow F x (m + n) ≡ pow F x m ⊗ pow F x n
  unfolding pow
  pow-add x zero n = ap (λ k. pow F x k) (zero-add n) ∙ sym (one_mul F R (pow F x n))
  pow-add x (suc m) n = ap (λ k. pow F x k) (suc-add m n) ∙ ap (λ y. x ⊗ y) (pow-add x m n) ∙ sym (R.mul_assoc x (pow F x m) (pow F x n))

  -- the power of a product
  pub pow-times : (x y : A) (n : ℕ) → pow F x n ⊗ pow F y n ≡ pow F (x ⊗ y) n
  unfolding pow
  pow-times x y zero = R.mul_one 𝟙
  pow-times x y (suc n) = ring F R 4 (λ x y u v. x :* u :* (y :* v) := x :* y :* (u :* v)) refl x y (pow F x n) (pow F y n) ∙ ap (λ u. x ⊗ y ⊗ u) (pow-times x y n)

  -- the power of a power
  pub pow-mul : (x : A) (m n : ℕ) → pow F x (m * n) ≡ pow F (pow F x n) m
  pow-mul x zero n = ap (λ k. pow F x k) (zero-mul n) ∙ pow-zero F x ∙ sym (pow-zero F (pow F x n))
  pow-mul x (suc m) n =
      ap (λ k. pow F x k) (suc-mul m n)
      ∙ pow-add x (m * n) n
      ∙ ap (λ y. y ⊗ pow F x n) (pow-mul x m n)
      ∙ R.mul_comm (pow F (pow F x n) m) (pow F x n)
      ∙ sym (pow-suc_is F (pow F x n) m)

  -- the power of a square
  pub pow-square : (x : A) (n : ℕ) → pow F (x ⊗ x) n ≡ pow F x (n + n)
  pow-square x n = sym (pow-times x x n) ∙ sym (pow-add x n n)

  pub pow-two : (x : A) → pow F x 2 ≡ x ⊗ x
  unfolding pow
  pow-two x = ap (λ y. x ⊗ y) (R.mul_one x)

  -- one more squaring
  pub pow-double : (x : A) (k : ℕ) → pow F x (2 ^ suc k) ≡ pow F x (2 ^ k) ⊗ pow F x (2 ^ k)
  pow-double x k = ap (λ n. pow F x n) (double k) ∙ pow-add x (2 ^ k) (2 ^ k)

  -- a step of squaring and multiplying, at an even and at an odd power
  pub even_step : (a x : A) (n : ℕ) → n % 2 ≡ 0 → a ⊗ pow F (x ⊗ x) (n / 2) ≡ a ⊗ pow F x n
  even_step a x n e = ap (λ t. a ⊗ t) (pow-square x (n / 2) ∙ ap (λ m. pow F x m) (omega arith))

  pub odd_step : (a x : A) (n : ℕ) → n % 2 ≡ 1 → (a ⊗ x) ⊗ pow F (x ⊗ x) (n / 2) ≡ a ⊗ pow F x n
  odd_step a x n e = R.mul_assoc a x (pow F (x ⊗ x) (n / 2)) ∙ ap (λ t. a ⊗ t) (ap (λ t. x ⊗ t) (pow-square x (n / 2)) ∙ sym (pow-suc_is F x (n / 2 + n / 2)) ∙ ap (λ m. pow F x m) (omega arith))

module _ {A : Type 0} (F : FieldOps A) (L : IsField F) where
  infixl 70 ◌⊗◌
  open F use {zero as 𝟘, one as 𝟙, mul as ◌⊗◌}

  pub pow-nonzero : (x : A) (n : ℕ) → ¬ (x ≡ 𝟘) → ¬ (pow F x n ≡ 𝟘)
  unfolding pow
  pow-nonzero x zero h e = L.one_not_zero e
  pow-nonzero x (suc n) h e = pow-nonzero x n h (cancel_zero F L x (pow F x n) h e)

-- a homomorphism carries powers and multiples
module _ {A E : Type 0} (F : FieldOps A) (K : FieldOps E) (h : A → E) (H : IsHomomorphism F K h) where
  pub homomorphism-pow : (x : A) (n : ℕ) → h (pow F x n) ≡ pow K (h x) n
  unfolding pow
  homomorphism-pow x zero = H.one
  homomorphism-pow x (suc n) = H.mul x (pow F x n) ∙ ap (λ y. K.mul (h x) y) (homomorphism-pow x n)

  pub homomorphism-multiple : (n : ℕ) → h (multiple F n) ≡ multiple K n
  unfolding multiple
  homomorphism-multiple zero = H.zero
  homomorphism-multiple (suc n) = H.add (multiple F n) F.one ∙ ap₂ (λ x y. K.add x y) (homomorphism-multiple n) H.one
