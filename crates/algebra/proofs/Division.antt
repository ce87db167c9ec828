-- Division of a polynomial by `X - r`, with remainder.
use Rattle.std.proofs.Common.{◌≡◌, suc, pred, List, [], ◌∷◌, length, refl, sym, ap, ◌∙◌}
use Rattle.algebra.specs.Field.{FieldOps, IsRing, sub}
use Rattle.algebra.specs.Polynomial.{val, quotient}
use Rattle.algebra.specs.Interpolation.{plus_multiple}
use Rattle.algebra.proofs.Ring.{◌:+◌, ◌:*◌, ◌:-◌, ◌:=◌, ring, o, :1, minus}
use Rattle.algebra.proofs.Combine.{combine2}
use Rattle.algebra.proofs.Values.{val-nil, val-cons, val-one}
use Rattle.algebra.proofs.Lists.{Each}

pub length-quotient : {A : Type 0} (F : FieldOps A) (c : List A) (r : A) → length (quotient F c r) ≡ pred (length c)
length-quotient F [] r = refl
length-quotient F (c ∷ []) r = refl
length-quotient F (c ∷ d ∷ ds) r = ap suc (length-quotient F (d ∷ ds) r)

pub length-plus_multiple : {A : Type 0} (F : FieldOps A) (r y : A) (q : List A) → length (plus_multiple F r y q) ≡ suc (length q)
length-plus_multiple F r y [] = refl
length-plus_multiple F r y (q ∷ qs) = ap suc (length-plus_multiple F r q qs)

module _ {A : Type 0} (F : FieldOps A) (R : IsRing F) where
  infixl 65 ◌⊕◌
  infixl 65 ◌⊖◌
  infixl 70 ◌⊗◌
  open F use {zero as 𝟘, one as 𝟙, add as ◌⊕◌, mul as ◌⊗◌, neg}

  abbrev ◌⊖◌ : A → A → A
  a ⊖ b = sub F a b

  -- the remainder is the value at `r`
  pub divide : (c : List A) (r x : A) → val F c x ≡ val F c r ⊕ (x ⊖ r) ⊗ val F (quotient F c r) x
  divide [] r x = rw (val-nil F R x, val-nil F R r) (ring F R 2 (λ x r. o := o :+ (x :- r) :* o) refl x r)
  divide (c ∷ []) r x = rw (val-one F R c x, val-one F R c r, val-nil F R x) (ring F R 3 (λ c x r. c := c :+ (x :- r) :* o) refl c x r)
  divide (c ∷ d ∷ ds) r x =
      rw (val-cons F R c (d ∷ ds) x, val-cons F R c (d ∷ ds) r, val-cons F R (val F (d ∷ ds) r) (quotient F (d ∷ ds) r) x, divide (d ∷ ds) r x)
      (ring F R 5 (λ c x r p q. c :+ x :* (p :+ (x :- r) :* q) := c :+ r :* p :+ (x :- r) :* (p :+ x :* q)) refl c x r (val F (d ∷ ds) r) (val F (quotient F (d ∷ ds) r) x))

  pub val-plus_multiple : (r y : A) (q : List A) (x : A) → val F (plus_multiple F r y q) x ≡ y ⊕ (x ⊖ r) ⊗ val F q x
  val-plus_multiple r y [] x = rw (val-one F R y x, val-nil F R x) (ring F R 3 (λ y x r. y := y :+ (x :- r) :* o) refl y x r)
  val-plus_multiple r y (q ∷ qs) x =
      rw (val-cons F R (y ⊖ r ⊗ q) (plus_multiple F r q qs) x, val-cons F R q qs x, val-plus_multiple r q qs x)
      (ring F R 5 (λ y r q x v. y :- r :* q :+ x :* (q :+ (x :- r) :* v) := y :+ (x :- r) :* (q :+ x :* v)) refl y r q x (val F qs x))

  -- where the quotient and the remainder are zero, so is the polynomial
  pub zero_from_quotient : (c : List A) (r : A) → val F c r ≡ 𝟘 → Each (λ a. a ≡ 𝟘) (quotient F c r) → Each (λ a. a ≡ 𝟘) c
  zero_from_quotient [] r e h = tt
  zero_from_quotient (c ∷ []) r e h = (sym (val-one F R c r) ∙ e, tt)
  zero_from_quotient (c ∷ d ∷ ds) r e h = (
    combine2 F R {k = 𝟙} {k' = neg r} (sym (val-cons F R c (d ∷ ds) r) ∙ e) h.0
        (ring F R 3 (λ c r v. c :+ (:1 :* o :+ minus r :* o) := o :+ (:1 :* (c :+ r :* v) :+ minus r :* v)) refl c r (val F (d ∷ ds) r)),
    zero_from_quotient (d ∷ ds) r h.0 h.1,
  )
