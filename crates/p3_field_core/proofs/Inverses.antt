-- From running products to inverses, from the last entry down.
use Rattle.std.proofs.Common.{◌≡◌, ◌⊎◌, inl, inr, ℕ, ◌+◌, ◌<◌, ◌≤◌, List, length, get_or, take, map}
use Rattle.std.proofs.Common.{sym, ap, ◌∙◌, arith}
use Rattle.std.proofs.Math.ListN.{set}
use Rattle.std.proofs.Math.Seq.{take-length}
use Rattle.std.proofs.lemmas.List.{get_or_default, get_or-set_same, get_or-map, length-map}
use Rattle.std.proofs.lemmas.List.{same_lists}
use Rattle.std.proofs.Common.{get_or-set_other, length-set}
use Rattle.algebra.specs.Field.{FieldOps, IsField}
use Rattle.algebra.specs.Products.{product, running_products}
use Rattle.algebra.proofs.Lists.{length-tabulate, get_or-tabulate}
use Rattle.algebra.proofs.Products.{product-take_next, undo_inverse, undo_rest}

module _ {A : Type 0} (F : FieldOps A) (values : List A) where
  infixl 70 ◌⊗◌
  open F use {one as 𝟙, mul as ◌⊗◌, inv}

  -- the entries from `i` on are inverses, those before are running products, and `inverse` is that
  -- of the product of the values before `i`
  pub record IsUndoneFrom (i : ℕ) (entries : List A) (inverse : A) : Type 0 where
    pub lengths : length entries ≡ length values
    pub done : (k : ℕ) (d : A) → i ≤ k → k < length values
        → get_or entries k d ≡ inv (get_or values k d)
    pub rest : (k : ℕ) (d : A) → k < i → get_or entries k d ≡ product F (take k values)
    pub inverse_of_rest : product F (take i values) ⊗ inverse ≡ 𝟙

module _ {A : Type 0} (F : FieldOps A) (L : IsField F) (values : List A) where
  infixl 70 ◌⊗◌
  open F use {one as 𝟙, mul as ◌⊗◌, inv}

  pub undone_start : (entries : List A) (inverse : A) → entries ≡ running_products F values
      → product F values ⊗ inverse ≡ 𝟙 → IsUndoneFrom F values (length values) entries inverse
  undone_start entries inverse e h = record {
    lengths = ap length e ∙ length-tabulate (length values) (λ i. product F (take i values));
    done = λ k d b l. absurd (omega (arith, b, l));
    rest = λ k d l. ap (λ xs. get_or xs k d) e
        ∙ get_or-tabulate (length values) (λ i. product F (take i values)) k d l;
    inverse_of_rest = ap (λ xs. product F xs ⊗ inverse) (take-length values) ∙ h;
  }

  either : (j k : ℕ) → j ≤ k → (k ≡ j) ⊎ (j + 1 ≤ k)
  either j k b = grind arith

  -- the entry before becomes an inverse
  pub undone_step : (j : ℕ) (entries : List A) (t x p m : A) → j < length values
      → x ≡ get_or values j x → p ≡ get_or entries j p → m ≡ p ⊗ t
      → IsUndoneFrom F values (j + 1) entries t → IsUndoneFrom F values j (set entries j m) (t ⊗ x)
  undone_step j entries t x p m l at_x at_p is here = record {
    lengths = length-set entries j m ∙ here.lengths;
    done = λ k d b l'. elim (either j k b) [
      | inl e ↦ ap (λ n. get_or (set entries j m) n d) e
          ∙ get_or-set_same entries j m d (omega (arith, l, here.lengths)) ∙ inverted
          ∙ ap inv (at_x ∙ get_or_default values j x d l ∙ ap (λ n. get_or values n d) (sym e))
      | inr b' ↦ get_or-set_other entries j k m d (λ e. omega (arith, e, b')) ∙ here.done k d b' l'
    ];
    rest = λ k d b. get_or-set_other entries j k m d (λ e. omega (arith, e, b))
        ∙ here.rest k d (omega (arith, b));
    inverse_of_rest = undo_rest F L (product F (take j values)) x t whole;
  }
    where
      whole : product F (take j values) ⊗ x ⊗ t ≡ 𝟙
      whole = ap (λ y. y ⊗ t) (ap (λ y. product F (take j values) ⊗ y) at_x ∙ sym
          (product-take_next F L.ring values j x l)) ∙ here.inverse_of_rest

      inverted : m ≡ inv x
      inverted =
          is ∙ ap (λ y. y ⊗ t) (at_p ∙ here.rest j p (omega arith))
          ∙ undo_inverse F L (product F (take j values)) x t whole

  pub undone_end : (entries : List A) (inverse : A) → IsUndoneFrom F values 0 entries inverse
      → entries ≡ map inv values
  undone_end entries inverse here =
      same_lists entries (map inv values) (here.lengths ∙ sym (length-map values inv))
      (λ k d l. let below : k < length values = omega (arith, l, here.lengths) in
      here.done k d (omega arith) below ∙ sym (get_or-map inv values k d d below))
