-- Products of lists: one entry more, and what isn't zero.
use Rattle.std.proofs.Common.{◌≡◌, ◌≢◌, ℕ, ◌+◌, ◌<◌, List, [], ◌∷◌, ◌++◌, get_or, take, length}
use Rattle.std.proofs.Common.{refl, sym, ap, ◌∙◌, add-one}
use Rattle.std.proofs.Math.Seq.{take-suc}
use Rattle.algebra.specs.Field.{FieldOps, IsRing, IsField}
use Rattle.algebra.specs.Products.{product}
use Rattle.algebra.proofs.RingLaws.{one_mul, zero_mul}
use Rattle.algebra.proofs.Ring.{◌:*◌, ◌:=◌, ring}
use Rattle.algebra.proofs.Combine.{cancel_zero, inverse_unique}
use Rattle.algebra.proofs.Lists.{Each}

module _ {A : Type 0} (F : FieldOps A) (R : IsRing F) where
  infixl 70 ◌⊗◌
  open F use {one as 𝟙, mul as ◌⊗◌}

  pub product-append : (xs ys : List A) → product F (xs ++ ys) ≡ product F xs ⊗ product F ys
  product-append [] ys = sym (one_mul F R (product F ys))
  product-append (x ∷ xs) ys = ap (λ p. x ⊗ p) (product-append xs ys) ∙ sym (R.mul_assoc x (product F xs) (product F ys))

  pub product-take_next : (xs : List A) (i : ℕ) (d : A) → i < length xs → product F (take (i + 1) xs) ≡ product F (take i xs) ⊗ get_or xs i d
  product-take_next xs i d l =
      ap (λ n. product F (take n xs)) (add-one i)
      ∙ ap (λ t. product F t) (take-suc xs i d l)
      ∙ product-append (take i xs) (get_or xs i d ∷ [])
      ∙ ap (λ x. product F (take i xs) ⊗ x) (R.mul_one (get_or xs i d))

module _ {A : Type 0} (F : FieldOps A) (L : IsField F) where
  infixl 70 ◌⊗◌
  open F use {zero as 𝟘, one as 𝟙, mul as ◌⊗◌, inv}

  pub product-nonzero : (xs : List A) → Each (λ x. x ≢ 𝟘) xs → product F xs ≢ 𝟘
  product-nonzero [] h e = L.one_not_zero e
  product-nonzero (x ∷ xs) h e = product-nonzero xs h.1 (cancel_zero F L x (product F xs) h.0 e)

  -- what has an inverse isn't zero, so that inverse is the one
  pub inverse_from_product : (x y : A) → x ⊗ y ≡ 𝟙 → y ≡ inv x
  inverse_from_product x y e = inverse_unique F L x y (λ z. L.one_not_zero (sym e ∙ ap (λ t. t ⊗ y) z ∙ zero_mul F L.ring y)) e

  -- a step of undoing running products: `p` is the product of the entries before `x`, and `t` the
  -- inverse of that with `x`
  pub undo_inverse : (p x t : A) → p ⊗ x ⊗ t ≡ 𝟙 → p ⊗ t ≡ inv x
  undo_inverse p x t e = inverse_from_product x (p ⊗ t) (ring F L.ring 3 (λ p x t. x :* (p :* t) := p :* x :* t) refl p x t ∙ e)

  pub undo_rest : (p x t : A) → p ⊗ x ⊗ t ≡ 𝟙 → p ⊗ (t ⊗ x) ≡ 𝟙
  undo_rest p x t e = ring F L.ring 3 (λ p x t. p :* (t :* x) := p :* x :* t) refl p x t ∙ e
