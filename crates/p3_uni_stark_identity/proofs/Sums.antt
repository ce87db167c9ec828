-- Sums by powers, from the first term on, and the constraints' sum.
use Rattle.std.proofs.Common.{◌≡◌, ℕ, ◌+◌, ◌<◌, List, [], ◌∷◌, length, map, take, get_or, reverse}
use Rattle.std.proofs.Common.{refl, sym, ap, ap₂, ◌∙◌}
use Rattle.std.proofs.lemmas.List.{take_more, reverse-append}
use Rattle.algebra.specs.Field.{FieldOps, IsField}
use Rattle.algebra.specs.Polynomial.{val}
use Rattle.algebra.proofs.RingLaws.{one_mul}
use Rattle.algebra.proofs.Lists.{map-agree}
use Rattle.algebra.proofs.Values.{val-nil, val-cons}
use Rattle.p3_air.specs.declared.air.Air.{Air}
use Rattle.p3_air.specs.declared.air.Rows.{Rows}
use Rattle.p3_air.specs.declared.air.Rows.TheVariants as rows
use Rattle.p3_air.specs.declared.air.Constraint.{Constraint}
use Rattle.p3_air.specs.Nodes.{Entries, meanings, values_in}
use Rattle.p3_air_laws.specs.Composition.{selector, selected, folded}
use Rattle.p3_uni_stark_identity.specs.declared.selectors.LagrangeSelectors.{LagrangeSelectors}
use Rattle.p3_uni_stark_identity.specs.Selectors.{AreSelectorsAt}
use Rattle.p3_uni_stark_identity.specs.Folding.{selected_by, folded_by}

module _ {A X : Type 0} (K : FieldOps A) (M : IsField K) (f : X → A) (cs : List X) (alpha : A)
  where
    pub sum_none : (v : A) → v ≡ K.zero → v ≡ val K (map f (reverse (take 0 cs))) alpha
    sum_none v e = e ∙ sym (val-nil K M.ring alpha)

    -- one constraint more
    pub sum_next : (k : ℕ) (d : X) (v w t : A) → k < length cs
        → v ≡ val K (map f (reverse (take k cs))) alpha → t ≡ f (get_or cs k d)
        → w ≡ K.add (K.mul v alpha) t → w ≡ val K (map f (reverse (take (k + 1) cs))) alpha
    sum_next k d v w t l e g h =
        h ∙ M.add_comm (K.mul v alpha) t
        ∙ ap₂ K.add g (M.mul_comm v alpha ∙ ap (λ x. K.mul alpha x) e)
        ∙ sym (val-cons K M.ring (f (get_or cs k d)) (map f (reverse (take k cs))) alpha)
        ∙ ap (λ xs. val K (map f xs) alpha)
        (sym (ap (λ xs. reverse xs) (take_more cs k d l)
        ∙ reverse-append (take k cs) (get_or cs k d ∷ [])))

module _ {V A : Type 0} (K : FieldOps A) (M : IsField K) (lift : V → A) (nothing : V) (air : Air V)
    (g : A) (n : ℕ) (entries : Entries V A) (z : A) (s : LagrangeSelectors A)
    (at : AreSelectorsAt K g n z s) where
  selected-agrees : (r : Rows) (v : A) → selected_by K s r v ≡ K.mul (selector K g n r z) v
  selected-agrees rows.All v = sym (one_mul K M.ring v)
  selected-agrees rows.First v = ap (λ x. K.mul x v) at.first
  selected-agrees rows.Last v = ap (λ x. K.mul x v) at.last
  selected-agrees rows.Transition v = ap (λ x. K.mul x v) at.transition

  -- by the selectors and the nodes' values, the constraints' sum
  pub fold_agrees : (values : List A) (constraints : List Constraint) (alpha : A)
      → values ≡ meanings (values_in K lift nothing entries) air.nodes.items
      → constraints ≡ air.constraints.items
      → folded_by K s values constraints alpha ≡ folded K lift nothing air g n entries alpha z
  fold_agrees values constraints alpha is same =
      ap (λ xs. val K xs alpha)
      (map-agree (λ c. selected_by K s c.rows (get_or values c.node K.zero))
      (selected K lift nothing air g n entries z)
      (λ c. selected-agrees c.rows (get_or values c.node K.zero)
      ∙ ap (λ vs. K.mul (selector K g n c.rows z) (get_or vs c.node K.zero)) is)
      (reverse constraints))
      ∙ ap (λ cs. folded_over cs alpha) same
    where
      folded_over : List Constraint → A → A
      folded_over cs alpha =
          val K (map (selected K lift nothing air g n entries z) (reverse cs)) alpha
