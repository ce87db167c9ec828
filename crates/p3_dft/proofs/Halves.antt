-- The value of a polynomial from those of its even and of its odd coefficients, and so the two
-- results of a butterfly.
use Rattle.std.proofs.Common.{◌≡◌, ℕ, zero, suc, ◌+◌, ◌^◌, ◌∷◌, refl, sym, ap, ap₂, ◌∙◌, arith}
use Rattle.algebra.specs.Field.{FieldOps, IsRing, pow, sub}
use Rattle.algebra.specs.Polynomial.{val, tabulate}
use Rattle.algebra.proofs.Ring.{◌:+◌, ◌:-◌, ◌:*◌, ◌:=◌, ring, minus, :1}
use Rattle.algebra.proofs.Powers.{double, pow-add, pow-times}
use Rattle.algebra.proofs.Values.{evens, odds, val-halves}
use Rattle.algebra.proofs.Lists.{tabulate-equal}

evens-tabulate : {A : Type 0} (n : ℕ) (f : ℕ → A) → evens (tabulate (n + n) f) ≡ tabulate n (λ i. f (i + i))
evens-tabulate zero f = refl
evens-tabulate (suc n) f =
    ap (λ k. evens (tabulate k f)) (let e : suc n + suc n ≡ suc (suc (n + n)) = omega arith in e)
    ∙ ap (λ ys. f zero ∷ ys) (evens-tabulate n (λ i. f (suc (suc i))) ∙ tabulate-equal n (λ i. f (suc (suc (i + i)))) (λ i. f (suc i + suc i)) (λ i l. ap f (omega arith)))

odds-tabulate : {A : Type 0} (n : ℕ) (f : ℕ → A) → odds (tabulate (n + n) f) ≡ tabulate n (λ i. f (suc (i + i)))
odds-tabulate zero f = refl
odds-tabulate (suc n) f =
    ap (λ k. odds (tabulate k f)) (let e : suc n + suc n ≡ suc (suc (n + n)) = omega arith in e)
    ∙ ap (λ ys. f 1 ∷ ys) (odds-tabulate n (λ i. f (suc (suc i))) ∙ tabulate-equal n (λ i. f (suc (suc (suc (i + i))))) (λ i. f (suc (suc i + suc i))) (λ i l. ap f (omega arith)))

module _ {A : Type 0} (F : FieldOps A) (R : IsRing F) where
  infixl 65 ◌⊕◌
  infixl 70 ◌⊗◌
  open F use {one as 𝟙, add as ◌⊕◌, mul as ◌⊗◌, neg}

  pub val-tabulate_halves : (n : ℕ) (f : ℕ → A) (x : A) → val F (tabulate (n + n) f) x ≡ val F (tabulate n (λ i. f (i + i))) (x ⊗ x) ⊕ x ⊗ val F (tabulate n (λ i. f (suc (i + i)))) (x ⊗ x)
  val-tabulate_halves n f x =
      val-halves F R (tabulate (n + n) f) x
      ∙ ap₂ (λ c d. val F c (x ⊗ x) ⊕ x ⊗ val F d (x ⊗ x)) (evens-tabulate n f) (odds-tabulate n f)

  module _ (s : ℕ) (v r : A) (square : r ⊗ r ≡ v) (half_turn : pow F r (2 ^ s) ≡ neg 𝟙) (f g h : ℕ → A)
      (even : (i : ℕ) → f (i + i) ≡ g i) (odd : (i : ℕ) → f (suc (i + i)) ≡ h i) where
    halves_at : (x y : A) → x ⊗ x ≡ y → val F (tabulate (2 ^ suc s) f) x ≡ val F (tabulate (2 ^ s) g) y ⊕ x ⊗ val F (tabulate (2 ^ s) h) y
    halves_at x y e =
        ap (λ n. val F (tabulate n f) x) (double s)
        ∙ val-tabulate_halves (2 ^ s) f x
        ∙ ap₂ (λ c d. val F c (x ⊗ x) ⊕ x ⊗ val F d (x ⊗ x)) (tabulate-equal (2 ^ s) (λ i. f (i + i)) g (λ i l. even i)) (tabulate-equal (2 ^ s) (λ i. f (suc (i + i))) h (λ i l. odd i))
        ∙ ap (λ t. val F (tabulate (2 ^ s) g) t ⊕ x ⊗ val F (tabulate (2 ^ s) h) t) e

    squared : (m : ℕ) → pow F r m ⊗ pow F r m ≡ pow F v m
    squared m = pow-times F R r r m ∙ ap (λ x. pow F x m) square

    -- the values at `r^m` and at `r^(2^s + m)`, where `r` has the order `2^(s + 1)`, from those at
    -- the square's power
    pub sum_is_value : (m : ℕ) → val F (tabulate (2 ^ s) g) (pow F v m) ⊕ val F (tabulate (2 ^ s) h) (pow F v m) ⊗ pow F r m ≡ val F (tabulate (2 ^ suc s) f) (pow F r m)
    sum_is_value m = ap (λ t. val F (tabulate (2 ^ s) g) (pow F v m) ⊕ t) (R.mul_comm (val F (tabulate (2 ^ s) h) (pow F v m)) (pow F r m)) ∙ sym (halves_at (pow F r m) (pow F v m) (squared m))

    pub difference_is_value : (m : ℕ) → sub F (val F (tabulate (2 ^ s) g) (pow F v m)) (val F (tabulate (2 ^ s) h) (pow F v m) ⊗ pow F r m) ≡ val F (tabulate (2 ^ suc s) f) (pow F r (2 ^ s + m))
    difference_is_value m =
        ring F R 3 (λ a p b. a :- b :* p := a :+ minus p :* b) refl (val F (tabulate (2 ^ s) g) (pow F v m)) (pow F r m) (val F (tabulate (2 ^ s) h) (pow F v m))
        ∙ sym (halves_at (neg (pow F r m)) (pow F v m) (ring F R 1 (λ x. minus x :* minus x := x :* x) refl (pow F r m) ∙ squared m))
        ∙ ap (λ x. val F (tabulate (2 ^ suc s) f) x) (sym (pow-add F R r (2 ^ s) m ∙ ap (λ x. x ⊗ pow F r m) half_turn ∙ ring F R 1 (λ x. minus :1 :* x := minus x) refl (pow F r m)))
