-- The converse of a quotient by a point.
use Rattle.std.proofs.Common.{◌≡◌, ◌≢◌, ℕ, ◌+◌, ◌≤◌, List, ◌++◌, length, drop, refl, sym, ap, ◌∙◌, append-nil}
use Rattle.std.proofs.lemmas.List.{drop_all}
use Rattle.algebra.specs.Field.{FieldOps, IsField, sub}
use Rattle.algebra.specs.Polynomial.{val}
use Rattle.algebra.specs.Interpolation.{plus_multiple}
use Rattle.algebra.proofs.Ring.{◌:+◌, ◌:*◌, ◌:-◌, ◌:=◌, ring, :1}
use Rattle.algebra.proofs.Combine.{combine, sub-eq}
use Rattle.algebra.proofs.Values.{stretched, val-stretched}
use Rattle.algebra.proofs.Division.{val-plus_multiple}
use Rattle.p3_converse.specs.Quotients.{IsUnquotient}

module _ {A : Type 0} (F : FieldOps A) (L : IsField F) where
  infixl 65 ◌⊕◌
  infixl 70 ◌⊗◌
  open F use {zero as 𝟘, one as 𝟙, add as ◌⊕◌, mul as ◌⊗◌, neg, inv}

  -- `y + (X - z) * q` at another point `x`, where the quotient of `u` is the value of `q`
  value_elsewhere : (z y x u v : A) → x ≢ z → sub F y u ⊗ inv (sub F z x) ≡ v → u ≡ y ⊕ sub F x z ⊗ v
  value_elsewhere z y x u v off e =
      sym (ap (λ t. y ⊕ sub F x z ⊗ t) (sym e)
      ∙ combine F L.ring {k = sub F u y} (L.mul_inv (sub F z x) (λ none. off (sym (sub-eq F L.ring none))))
      (ring F L.ring 5 (λ z y x u i. y :+ (x :- z) :* ((y :- u) :* i) :+ (u :- y) :* :1 := u :+ (u :- y) :* ((z :- x) :* i)) refl z y x u (inv (sub F z x))))

  -- the quotient's coefficients with the powers of the shift taken off
  unstretched : (shift : A) (q : List A) (x : A) → shift ≢ 𝟘 → val F (stretched F 𝟙 (inv shift) q) (shift ⊗ x) ≡ val F q x
  unstretched shift q x nonzero =
      val-stretched F L.ring 𝟙 (inv shift) q (shift ⊗ x)
      ∙ L.mul_comm 𝟙 (val F q (inv shift ⊗ (shift ⊗ x)))
      ∙ L.mul_one (val F q (inv shift ⊗ (shift ⊗ x)))
      ∙ ap (λ t. val F q t) (combine F L.ring {k = x} (L.mul_inv shift nonzero) (ring F L.ring 3 (λ s i x. i :* (s :* x) :+ x :* :1 := x :+ x :* (s :* i)) refl shift (inv shift) x))

  pub is_unquotient : (shift z y : A) (q : List A) → shift ≢ 𝟘 → IsUnquotient F shift z y q (plus_multiple F z y (stretched F 𝟙 (inv shift) q))
  is_unquotient shift z y q nonzero =
      let p = stretched F 𝟙 (inv shift) q in
      record {
        claim = val-plus_multiple F L.ring z y p z ∙ ring F L.ring 3 (λ z y v. y :+ (z :- z) :* v := y) refl z y (val F p z);
        values = λ x u off e.
            value_elsewhere z y (shift ⊗ x) u (val F q x) off e
            ∙ sym (val-plus_multiple F L.ring z y p (shift ⊗ x) ∙ ap (λ v. y ⊕ sub F (shift ⊗ x) z ⊗ v) (unstretched shift q x nonzero));
      }

-- no coefficient more
pub stretched_end : {A : Type 0} (F : FieldOps A) (front all : List A) (k s : A) (c : List A) (i : ℕ) → length c ≤ i → front ++ stretched F k s (drop i c) ≡ all → front ≡ all
stretched_end F front all k s c i l e = sym (append-nil front) ∙ ap (λ xs. front ++ stretched F k s xs) (sym (drop_all i c l)) ∙ e
