-- The fold of a row of two values by a slope: from the second value on, the difference times the
-- challenge over twice the first point, and one half.
use Rattle.std.proofs.Common.{◌≡◌, ℕ, suc, ◌^◌, ◌<◌, ◌≤◌, [], ◌∷◌, refl, ap, ◌∙◌}
use Rattle.algebra.specs.Field.{FieldOps, IsField, IsHomomorphism, sub}
use Rattle.algebra.specs.TwoAdic.{AreRoots}
use Rattle.algebra.specs.Folds.{fold_value, IsHalfInverse}
use Rattle.algebra.proofs.Ring.{◌:+◌, ◌:*◌, ◌:-◌, ◌:=◌, ring, :1}
use Rattle.algebra.proofs.PairFolds.{fold_by_half_inverse}

module _ {A E : Type 0} (F : FieldOps A) (K : FieldOps E) (lift : A → E) (L : IsField F)
    (M : IsField K) (H : IsHomomorphism F K lift) (top : ℕ) (w : ℕ → A) (W : AreRoots F top w) where
  infixl 65 ◌⊕◌
  infixl 70 ◌⊗◌
  open K use {one as 𝟙, add as ◌⊕◌, mul as ◌⊗◌}

  pub fold_by_slope : (i h : ℕ) (half : A) (beta y0 y1 one_half r : E) → i < 2 ^ h → suc h ≤ top
      → IsHalfInverse F w i h half → one_half ⊕ one_half ≡ 𝟙
      → r ≡ y1 ⊕ sub K y0 y1 ⊗ (beta ⊗ lift half ⊕ one_half)
      → r ≡ fold_value K (λ k. lift (w k)) i h 1 beta (y0 ∷ y1 ∷ [])
  fold_by_slope i h half beta y0 y1 one_half r l b inverse halved is =
      fold_by_half_inverse F K lift L M H top w W i h half beta y0 y1
      (y1 ⊕ sub K y0 y1 ⊗ one_half) r l b inverse
      (ring K M.ring 3 (λ y z o. (z :+ (y :- z) :* o) :+ (z :+ (y :- z) :* o)
      := (z :+ z) :+ (y :- z) :* (o :+ o)) refl y0 y1 one_half
      ∙ ap (λ x. (y1 ⊕ y1) ⊕ sub K y0 y1 ⊗ x) halved
      ∙ ring K M.ring 2 (λ y z. (z :+ z) :+ (y :- z) :* :1 := y :+ z) refl y0 y1)
      (is
      ∙ ring K M.ring 5 (λ z d x t o. z :+ d :* (x :* t :+ o) := (z :+ d :* o) :+ d :* t :* x) refl
      y1 (sub K y0 y1) beta (lift half) one_half)
