-- A polynomial with as many distinct roots as coefficients is zero.
use Rattle.std.proofs.Common.{◌≡◌, ℕ, suc, ◌≤◌, List, [], ◌∷◌, length, refl, sym, ◌∙◌, arith}
use Rattle.algebra.specs.Field.{FieldOps, IsField, sub}
use Rattle.algebra.specs.Polynomial.{val, quotient}
use Rattle.algebra.proofs.Ring.{◌:+◌, ◌:*◌, ◌:-◌, ◌:=◌, ring, o, :1, minus}
use Rattle.algebra.proofs.Combine.{combine2, cancel_zero, sub-eq}
use Rattle.algebra.proofs.Division.{divide, length-quotient, zero_from_quotient}
use Rattle.algebra.proofs.Values.{val-zeros}
use Rattle.algebra.proofs.Lists.{Each, Off, Distinct}

module _ {A : Type 0} (F : FieldOps A) (L : IsField F) where
  infixl 65 ◌⊕◌
  infixl 70 ◌⊗◌
  open F use {zero as 𝟘, one as 𝟙, add as ◌⊕◌, mul as ◌⊗◌, neg}

  quotient_roots : (c : List A) (r : A) (xs : List A) → val F c r ≡ 𝟘 → Off r xs → Each (λ x. val F c x ≡ 𝟘) xs → Each (λ x. val F (quotient F c r) x ≡ 𝟘) xs
  quotient_roots c r [] e off h = tt
  quotient_roots c r (x ∷ xs) e off h = (cancel_zero F L (sub F x r) (val F (quotient F c r) x) (λ z. off.0 (sub-eq F L.ring z)) step, quotient_roots c r xs e off.1 h.1)
    where
      step : sub F x r ⊗ val F (quotient F c r) x ≡ 𝟘
      step = combine2 F L.ring {k = 𝟙} {k' = neg 𝟙} (sym (divide F L.ring c r x) ∙ h.0) e
          (ring F L.ring 4 (λ x r q w. (x :- r) :* q :+ (:1 :* o :+ minus :1 :* o) := o :+ (:1 :* (w :+ (x :- r) :* q) :+ minus :1 :* w)) refl x r (val F (quotient F c r) x) (val F c r))

  pub zero_from_roots : (c xs : List A) → length c ≤ length xs → Distinct xs → Each (λ x. val F c x ≡ 𝟘) xs → Each (λ a. a ≡ 𝟘) c
  zero_from_roots [] xs n d h = tt
  zero_from_roots (c ∷ cs) [] n d h = absurd (omega (arith, n))
  zero_from_roots (c ∷ cs) (r ∷ rs) n d h = zero_from_quotient F L.ring (c ∷ cs) r h.0 (zero_from_roots (quotient F (c ∷ cs) r) rs (shorter (length-quotient F (c ∷ cs) r) n) d.1 (quotient_roots (c ∷ cs) r rs h.0 d.0 h.1))
    where
      shorter : {q m n : ℕ} → q ≡ m → suc m ≤ suc n → q ≤ n
      shorter e l = omega (arith, e, l)

  -- and so is its value everywhere
  pub zero_everywhere : (c xs : List A) → length c ≤ length xs → Distinct xs → Each (λ x. val F c x ≡ 𝟘) xs → (y : A) → val F c y ≡ 𝟘
  zero_everywhere c xs n d h y = val-zeros F L.ring c y (zero_from_roots c xs n d h)
