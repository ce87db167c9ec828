-- The fold of a row of two values, and half the inverses of points by which it is computed.
use Rattle.std.proofs.Common.{◌≡◌, ℕ, suc, ◌+◌, ◌-◌, ◌^◌, ◌<◌, ◌≤◌, List, [], ◌∷◌, length, map}
use Rattle.std.proofs.Common.{get_or, refl, sym, ap, ap₂, ◌∙◌, arith}
use Rattle.algebra.specs.Field.{FieldOps, IsField, IsHomomorphism, sub, pow}
use Rattle.algebra.specs.Polynomial.{val}
use Rattle.algebra.specs.Interpolation.{Interpolates, interpolant}
use Rattle.algebra.specs.Digits.{rev}
use Rattle.algebra.specs.TwoAdic.{AreRoots, pt, row_points}
use Rattle.algebra.proofs.Ring.{◌:+◌, ◌:*◌, ◌:-◌, ◌:=◌, ring, :1, minus}
use Rattle.algebra.proofs.Combine.{combine, equal_from_doubles}
use Rattle.algebra.proofs.Values.{val-two}
use Rattle.algebra.proofs.Powers.{pow-add, pow-times, pow-one_base, double}
use Rattle.algebra.proofs.Lifting.{lifted_pt}
use Rattle.algebra.proofs.Digits.{rev-even, rev-lt}
use Rattle.algebra.proofs.Points.{full_turn, root-nonzero, lifted_roots, point-opposite}
use Rattle.algebra.proofs.Points.{row_distinct}
use Rattle.algebra.proofs.Interpolation.{interpolant_interpolates}
use Rattle.algebra.proofs.Lists.{distinct_from_AllPairs, head_eq, tail_eq}
use Rattle.algebra.specs.Folds.{fold_value, IsHalfInverse}

module _ {A : Type 0} (F : FieldOps A) (L : IsField F) (top : ℕ) (w : ℕ → A)
    (W : AreRoots F top w) where
  infixl 65 ◌⊕◌
  infixl 70 ◌⊗◌
  open F use {zero as 𝟘, one as 𝟙, add as ◌⊕◌, mul as ◌⊗◌, neg}

  -- a line with the values `y0` and `y1` at `s` and `-s`, whose double at `beta` needs the inverse
  -- `t` of `s` alone
  line : (c : List A) (s t beta y0 y1 : A) → length c ≡ 2 → val F c s ≡ y0 → val F c (neg s) ≡ y1
      → s ⊗ t ≡ 𝟙 → (y0 ⊕ y1) ⊕ sub F y0 y1 ⊗ t ⊗ beta ≡ val F c beta ⊕ val F c beta
  line [] s t beta y0 y1 n e0 e1 i = absurd (omega (arith, n))
  line (a ∷ []) s t beta y0 y1 n e0 e1 i = absurd (omega (arith, n))
  line (a ∷ b ∷ []) s t beta y0 y1 n e0 e1 i =
      rw (
        val-two F L.ring a b beta,
        ← e0,
        ← e1,
        val-two F L.ring a b s,
        val-two F L.ring a b
            (neg s),
      )
      (combine F L.ring {k = (b ⊕ b) ⊗ beta} i (ring F L.ring 5
      (λ a b s t x. ((a :+ s :* b) :+ (a :+ minus s :* b)) :+
      ((a :+ s :* b) :- (a :+ minus s :* b)) :* t :* x :+ (b :+ b) :* x :* :1
      := (a :+ x :* b) :+ (a :+ x :* b) :+ (b :+ b) :* x :* (s :* t)) refl a b s t beta))
  line (a ∷ b ∷ c ∷ cs) s t beta y0 y1 n e0 e1 i = absurd (omega (arith, n))

  -- the points of a row of two
  row_of_two : (i h : ℕ) → suc h ≤ top
      → row_points F w i 1 h ≡ pt F w (i + i) (suc h) ∷ neg (pt F w (i + i) (suc h)) ∷ []
  row_of_two i h b = ap₂ (λ x y. x ∷ y ∷ []) (ap₂ (pt F w) (omega arith) (omega arith))
      (ap₂ (pt F w) (omega arith) (omega arith) ∙ point-opposite F L top w W i h b)

  pub fold_of_two : (i h : ℕ) (t beta y0 y1 r : A) → i < 2 ^ h → suc h ≤ top
      → pt F w (i + i) (suc h) ⊗ t ≡ 𝟙
      → r ⊕ r ≡ (y0 ⊕ y1) ⊕ sub F y0 y1 ⊗ t ⊗ beta → r ≡ fold_value F w i h 1 beta (y0 ∷ y1 ∷ [])
  unfolding fold_value
  fold_of_two i h t beta y0 y1 r l b inverse e =
      equal_from_doubles F L r (val F c beta)
      (e ∙ line c (pt F w (i + i) (suc h)) t beta y0 y1 through.count (head_eq values)
      (head_eq (tail_eq values)) inverse)
    where
      c : List A
      c = interpolant F (row_points F w i 1 h) (y0 ∷ y1 ∷ [])

      through : Interpolates F (row_points F w i 1 h) (y0 ∷ y1 ∷ []) c
      through = interpolant_interpolates F L (row_points F w i 1 h) (y0 ∷ y1 ∷ []) refl
          (distinct_from_AllPairs (row_points F w i 1 h)
          (row_distinct F L top w W i 1 h (omega (arith, b)) l))

      values : val F c (pt F w (i + i) (suc h)) ∷ val F c (neg (pt F w (i + i) (suc h))) ∷ []
          ≡ y0 ∷ y1 ∷ []
      values = sym (ap (λ xs. map (λ x. val F c x) xs) (row_of_two i h b)) ∙ through.values

module _ {A E : Type 0} (F : FieldOps A) (K : FieldOps E) (lift : A → E) (L : IsField F)
    (M : IsField K) (H : IsHomomorphism F K lift) (top : ℕ) (w : ℕ → A) (W : AreRoots F top w) where
  infixl 65 ◌⊕◌
  infixl 70 ◌⊗◌
  open K use {one as 𝟙, add as ◌⊕◌, mul as ◌⊗◌, neg}

  -- the fold by half the inverse of the row's first point, which lies in the base field
  pub fold_by_half_inverse : (i h : ℕ) (half : A) (beta y0 y1 s r : E) → i < 2 ^ h → suc h ≤ top
      → IsHalfInverse F w i h half
      → s ⊕ s ≡ y0 ⊕ y1 → r ≡ s ⊕ sub K y0 y1 ⊗ lift half ⊗ beta
      → r ≡ fold_value K (λ k. lift (w k)) i h 1 beta (y0 ∷ y1 ∷ [])
  fold_by_half_inverse i h half beta y0 y1 s r l b inverse sum is =
      fold_of_two K M top (λ k. lift (w k)) (lifted_roots F K lift L M H top w W) i h
      (lift (F.add half half)) beta y0 y1 r l b
      (ap (λ x. x ⊗ lift (F.add half half)) (sym (lifted_pt F K lift H w (i + i) (suc h)))
      ∙ sym (H.mul (pt F w (i + i) (suc h)) (F.add half half)) ∙ ap lift inverse ∙ H.one)
      (ap (λ x. x ⊕ x) is
      ∙ ring K M.ring 4 (λ s d t x. (s :+ d :* t :* x) :+ (s :+ d :* t :* x) := (s :+ s) :+ d :*
      (t :+ t) :* x) refl s (sub K y0 y1) (lift half) beta
      ∙ ap₂ (λ x y. x ⊕ sub K y0 y1 ⊗ y ⊗ beta) sum (sym (H.add half half)))

module _ {A : Type 0} (F : FieldOps A) (L : IsField F) (top : ℕ) (w : ℕ → A)
    (W : AreRoots F top w) where
  infixl 65 ◌⊕◌
  infixl 70 ◌⊗◌
  open F use {one as 𝟙, add as ◌⊕◌, mul as ◌⊗◌, inv}

  -- the inverse of a row's first point is a power of the root too
  pub half_inverse_by_power : (i h n : ℕ) (half : A) → suc h ≤ top → n ≡ 2 ^ suc h - rev h i
      → half ⊕ half ≡ pow F (w (suc h)) n → IsHalfInverse F w i h half
  unfolding pt
  half_inverse_by_power i h n half b e is =
      ap (λ x. pow F (w (suc h)) (rev (suc h) (i + i)) ⊗ x) is
      ∙ sym (pow-add F L.ring (w (suc h)) (rev (suc h) (i + i)) n)
      ∙ ap (λ m. pow F (w (suc h)) m) (omega (arith, e, rev-even h i, rev-lt h i, double h))
      ∙ full_turn F L top w W (suc h) b

  -- and a power of the root's inverse
  pub half_inverse_by_inverse : (i h n : ℕ) (one_half half : A) → suc h ≤ top → n ≡ rev h i
      → one_half ⊕ one_half ≡ 𝟙 → half ≡ one_half ⊗ pow F (inv (w (suc h))) n
      → IsHalfInverse F w i h half
  unfolding pt
  half_inverse_by_inverse i h n one_half half b e halved is =
      ap₂ (λ m x. pow F (w (suc h)) m ⊗ (x ⊕ x)) (rev-even h i ∙ sym e) is
      ∙ ring F L.ring 3 (λ p q a. p :* (a :* q :+ a :* q) := (a :+ a) :* (p :* q)) refl
      (pow F (w (suc h)) n) (pow F (inv (w (suc h))) n) one_half
      ∙ ap₂ (λ x y. x ⊗ y) halved
      (pow-times F L.ring (w (suc h)) (inv (w (suc h))) n
      ∙ ap (λ x. pow F x n) (L.mul_inv (w (suc h)) (root-nonzero F L top w W (suc h) b))
      ∙ pow-one_base F L.ring n)
      ∙ L.mul_one 𝟙

pub two_entries : {A : Type 0} (xs : List A) (a b : A) → length xs ≡ 2 → a ≡ get_or xs 0 a
    → b ≡ get_or xs 1 b → xs ≡ a ∷ b ∷ []
two_entries [] a b n e0 e1 = absurd (omega (arith, n))
two_entries (x ∷ []) a b n e0 e1 = absurd (omega (arith, n))
two_entries (x ∷ y ∷ []) a b n e0 e1 = ap₂ (λ u v. u ∷ v ∷ []) (sym e0) (sym e1)
two_entries (x ∷ y ∷ z ∷ xs) a b n e0 e1 = absurd (omega (arith, n))
