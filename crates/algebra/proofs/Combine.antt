-- Equations of a ring that follow from others, and what division needs.
use Rattle.std.proofs.Common.{◌≡◌, refl, sym, ap, ap₂, ◌∙◌}
use Rattle.algebra.specs.Field.{FieldOps, IsRing, IsField, sub}
use Rattle.algebra.proofs.RingLaws.{cancel_left}
use Rattle.algebra.proofs.Ring.{◌:+◌, ◌:*◌, ◌:-◌, ◌:=◌, ring, o, :1, minus}

module _ {A : Type 0} (F : FieldOps A) (R : IsRing F) where
  infixl 65 ◌⊕◌
  infixl 70 ◌⊗◌
  open F use {zero as 𝟘, one as 𝟙, add as ◌⊕◌, mul as ◌⊗◌, neg}

  -- `x = y` follows from `u = v` if `x - y` is `k (u - v)`
  pub combine : {x y u v k : A} → u ≡ v → x ⊕ k ⊗ v ≡ y ⊕ k ⊗ u → x ≡ y
  combine {x} {y} {u} {v} {k} h e = cancel_left F R (k ⊗ v) x y (R.add_comm (k ⊗ v) x ∙ e ∙ ap (λ t. y ⊕ k ⊗ t) h ∙ R.add_comm y (k ⊗ v))

  pub combine2 : {x y u v k u' v' k' : A} → u ≡ v → u' ≡ v' → x ⊕ (k ⊗ v ⊕ k' ⊗ v') ≡ y ⊕ (k ⊗ u ⊕ k' ⊗ u') → x ≡ y
  combine2 {x} {y} {u} {v} {k} {u'} {v'} {k'} h h' e = cancel_left F R (k ⊗ v ⊕ k' ⊗ v') x y (R.add_comm (k ⊗ v ⊕ k' ⊗ v') x ∙ e ∙ ap₂ (λ s t. y ⊕ (k ⊗ s ⊕ k' ⊗ t)) h h' ∙ R.add_comm y (k ⊗ v ⊕ k' ⊗ v'))

  pub sub-self : (a : A) → sub F a a ≡ 𝟘
  sub-self a = R.add_neg a

  pub sub-eq : {a b : A} → sub F a b ≡ 𝟘 → a ≡ b
  sub-eq {a} {b} h = combine {k = 𝟙} h (ring F R 2 (λ a b. a :+ :1 :* o := b :+ :1 :* (a :- b)) refl a b)

module _ {A : Type 0} (F : FieldOps A) (L : IsField F) where
  infixl 65 ◌⊕◌
  infixl 70 ◌⊗◌
  open F use {zero as 𝟘, one as 𝟙, add as ◌⊕◌, mul as ◌⊗◌, neg, inv}

  -- no zero divisors
  pub cancel_zero : (a b : A) → ¬ (a ≡ 𝟘) → a ⊗ b ≡ 𝟘 → b ≡ 𝟘
  cancel_zero a b n h = combine2 F L.ring {k = b} {k' = neg (inv a)} (sym (L.mul_inv a n)) (sym h)
      (ring F L.ring 3 (λ a b i. b :+ (b :* (a :* i) :+ minus i :* (a :* b)) := o :+ (b :* :1 :+ minus i :* o)) refl a b (inv a))

  pub cancel_factor : (s a b : A) → ¬ (s ≡ 𝟘) → s ⊗ a ≡ s ⊗ b → a ≡ b
  cancel_factor s a b n e = sub-eq F L.ring (cancel_zero s (sub F a b) n (combine F L.ring {k = 𝟙} e (ring F L.ring 3 (λ s a b. s :* (a :- b) :+ :1 :* (s :* b) := o :+ :1 :* (s :* a)) refl s a b)))

  -- halves are equal where doubles are
  pub equal_from_doubles : (a b : A) → a ⊕ a ≡ b ⊕ b → a ≡ b
  equal_from_doubles a b e = cancel_factor (𝟙 ⊕ 𝟙) a b L.two_not_zero (combine F L.ring {k = 𝟙} e (ring F L.ring 2 (λ a b. (:1 :+ :1) :* a :+ :1 :* (b :+ b) := (:1 :+ :1) :* b :+ :1 :* (a :+ a)) refl a b))

  -- what gives one together with `x` is its inverse
  pub inverse_unique : (x y : A) → ¬ (x ≡ 𝟘) → x ⊗ y ≡ 𝟙 → y ≡ inv x
  inverse_unique x y n e = combine2 F L.ring {k = inv x} {k' = neg y} e (L.mul_inv x n)
      (ring F L.ring 3 (λ x y i. y :+ (i :* :1 :+ minus y :* :1) := i :+ (i :* (x :* y) :+ minus y :* (x :* i))) refl x y (inv x))
