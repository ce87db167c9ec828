-- The quotient's value at a point, by values in the base field.
use Rattle.std.proofs.Common.{◌≡◌, ◌≢◌, ℕ, ◌<◌, List, length, map, get_or, reverse, All}
use Rattle.std.proofs.Common.{sym, ap, ap₂, subst, ◌∙◌, arith}
use Rattle.std.proofs.lemmas.List.{length-map, get_or-map}
use Rattle.algebra.specs.Field.{FieldOps, IsField, IsHomomorphism, sub, pow}
use Rattle.algebra.specs.Polynomial.{val, tabulate, sum_below}
use Rattle.algebra.proofs.Combine.{sub-eq}
use Rattle.algebra.proofs.RingLaws.{one_mul}
use Rattle.algebra.proofs.Lifting.{homomorphism-sub, homomorphism-inv}
use Rattle.algebra.proofs.Lists.{map-map, map-agree, get_or-tabulate}
use Rattle.algebra.proofs.Lists.{each_from_All, All_from_each}
use Rattle.algebra.proofs.PolynomialProduct.{sum_below-equal}
use Rattle.algebra.proofs.Powers.{homomorphism-pow}
use Rattle.p3_field_core.specs.RowSums.{row_term}
use Rattle.stark_algebra.specs.Selectors.{zerofier}
use Rattle.p3_air.specs.declared.air.Air.{Air}
use Rattle.p3_air.specs.declared.air.Rows.{Rows}
use Rattle.p3_air.specs.declared.air.Rows.TheVariants as rows
use Rattle.p3_air.specs.declared.air.Constraint.{Constraint}
use Rattle.p3_air.specs.Nodes.{Entries, meanings, values_in}
use Rattle.p3_air_laws.specs.Composition.{selector, selected}
use Rattle.p3_air_laws.proofs.Folded.{each-reverse}
use Rattle.p3_air_laws.proofs.Lifted.{lifted_value}
use Rattle.p3_uni_stark_identity.specs.declared.selectors.LagrangeSelectors.{LagrangeSelectors}
use Rattle.p3_uni_stark_identity.specs.Selectors.{AreSelectorsAt}
use Rattle.p3_uni_stark_identity.specs.Folding.{selected_by}
use Rattle.p3_uni_stark_quotient.specs.Quotient.{lifted_entries, quotient_on_row}

-- constraints in reverse name nodes of which there are as many values
pub reversed_valued : (count long : ℕ) (constraints reversed given : List Constraint)
    → reversed ≡ reverse constraints → given ≡ reversed → long ≡ count
    → All (λ c. c.node < count) constraints → All (λ c. c.node < long) given
reversed_valued count long constraints reversed given e same many named =
    subst (λ cs. All (λ c. c.node < long) cs) (sym (same ∙ e))
    (subst (λ n. All (λ c. c.node < n) (reverse constraints)) (sym many)
    (All_from_each (λ c. c.node < count) (reverse constraints)
    (each-reverse (λ c. c.node < count) constraints
    (each_from_All (λ c. c.node < count) constraints named))))

module _ {V A : Type 0} (F : FieldOps V) (L : IsField F) (K : FieldOps A) (M : IsField K)
    (lift : V → A) (H : IsHomomorphism F K lift) where
  lifted_zerofier : (n : ℕ) (x : V) → lift (zerofier F n x) ≡ zerofier K n (lift x)
  lifted_zerofier n x = homomorphism-sub F K lift L.ring M.ring H (pow F x n) F.one
      ∙ ap₂ (λ a b. sub K a b) (homomorphism-pow F K lift H x n) H.one

  lifted_difference : (x r : V) → lift (sub F x r) ≡ sub K (lift x) (lift r)
  lifted_difference x r = homomorphism-sub F K lift L.ring M.ring H x r

  module _ (g x : V) (n : ℕ) (off : zerofier F n x ≢ F.zero) (g_there : g ≢ F.zero)
      (first : zerofier F n F.one ≡ F.zero) (last : zerofier F n (F.inv g) ≡ F.zero) where
    -- the point isn't a root
    other : (r : V) → zerofier F n r ≡ F.zero → sub F x r ≢ F.zero
    other r root e = off (ap (λ y. zerofier F n y) (sub-eq F L.ring e) ∙ root)

    lifted_quotient : (r : V) → zerofier F n r ≡ F.zero
        → lift (F.mul (zerofier F n x) (F.inv (sub F x r)))
        ≡ K.mul (zerofier K n (lift x)) (K.inv (sub K (lift x) (lift r)))
    lifted_quotient r root =
        H.mul (zerofier F n x) (F.inv (sub F x r))
        ∙ ap₂ K.mul (lifted_zerofier n x)
        (homomorphism-inv F K lift L M H (sub F x r) (other r root)
        ∙ ap K.inv (lifted_difference x r))

    lifted_last : lift (F.inv g) ≡ K.inv (lift g)
    lifted_last = homomorphism-inv F K lift L M H g g_there

    lifted_selector : (r : Rows) → lift (selector F g n r x) ≡ selector K (lift g) n r (lift x)
    lifted_selector rows.All = H.one
    lifted_selector rows.First = lifted_quotient F.one first
        ∙ ap (λ y. K.mul (zerofier K n (lift x)) (K.inv (sub K (lift x) y))) H.one
    lifted_selector rows.Last = lifted_quotient (F.inv g) last
        ∙ ap (λ y. K.mul (zerofier K n (lift x)) (K.inv (sub K (lift x) y))) lifted_last
    lifted_selector rows.Transition = lifted_difference x (F.inv g)
        ∙ ap (λ y. sub K (lift x) y) lifted_last

    module _ (s : LagrangeSelectors V) (at : AreSelectorsAt F g n x s) where
      lifted_selected : (r : Rows) (v : V)
          → lift (selected_by F s r v) ≡ K.mul (selector K (lift g) n r (lift x)) (lift v)
      lifted_selected rows.All v =
          sym (one_mul K M.ring (lift v))
      lifted_selected rows.First v = H.mul s.is_first_row v
          ∙ ap (λ y. K.mul y (lift v)) (ap lift at.first ∙ lifted_selector rows.First)
      lifted_selected rows.Last v = H.mul s.is_last_row v
          ∙ ap (λ y. K.mul y (lift v)) (ap lift at.last ∙ lifted_selector rows.Last)
      lifted_selected rows.Transition v = H.mul s.is_transition v
          ∙ ap (λ y. K.mul y (lift v)) (ap lift at.transition ∙ lifted_selector rows.Transition)

      lifted_inverse : lift s.inv_vanishing ≡ K.inv (zerofier K n (lift x))
      lifted_inverse = ap lift at.vanishing
          ∙ homomorphism-inv F K lift L M H (zerofier F n x) off
          ∙ ap K.inv (lifted_zerofier n x)

      module _ (air : Air V) (alpha : A) (entries : Entries V V) (reversed : List Constraint)
          (values row : List V) (powers : List A) (e : reversed ≡ reverse air.constraints.items)
          (values_are : values ≡ meanings (values_in F (λ x. x) F.zero entries) air.nodes.items)
          (row_is : row ≡ map (λ c. selected_by F s c.rows (get_or values c.node F.zero)) reversed)
          (powers_are : powers ≡ tabulate (length reversed) (λ i. pow K alpha i)) where
        one_selected : (c : Constraint) → lift (selected_by F s c.rows (get_or values c.node F.zero))
            ≡ selected K lift F.zero air (lift g) n (lifted_entries lift entries) (lift x) c
        one_selected c =
            lifted_selected c.rows (get_or values c.node F.zero)
            ∙ ap (λ y. K.mul (selector K (lift g) n c.rows (lift x)) y)
            (ap (λ vs. lift (get_or vs c.node F.zero)) values_are
            ∙ lifted_value F L K M lift H air entries c.node)

        lifted_row : map lift row
            ≡ map (selected K lift F.zero air (lift g) n (lifted_entries lift entries) (lift x))
            (reverse air.constraints.items)
        lifted_row =
            ap (λ vs. map lift vs) row_is
            ∙ map-map lift (λ c. selected_by F s c.rows (get_or values c.node F.zero)) reversed
            ∙ map-agree (λ c. lift (selected_by F s c.rows (get_or values c.node F.zero)))
            (selected K lift F.zero air (lift g) n (lifted_entries lift entries) (lift x))
            one_selected reversed
            ∙ ap (λ cs. map (selected K lift F.zero air (lift g) n
            (lifted_entries lift entries) (lift x)) cs) e

        row_long : length row ≡ length reversed
        row_long = ap length row_is
            ∙ length-map reversed (λ c. selected_by F s c.rows (get_or values c.node F.zero))

        sum_is : sum_below K (length row) (row_term F K lift powers row) ≡ val K (map lift row) alpha
        unfolding val
        sum_is =
            sum_below-equal K (length row) (row_term F K lift powers row)
            (λ i. K.mul (get_or (map lift row) i K.zero) (pow K alpha i))
            (λ i l. M.mul_comm (get_or powers i K.zero) (lift (get_or row i F.zero))
            ∙ ap₂ K.mul (sym (get_or-map lift row i F.zero K.zero l))
            (ap (λ ps. get_or ps i K.zero) powers_are
            ∙ get_or-tabulate (length reversed) (λ i. pow K alpha i) i K.zero
            (omega (arith, l, row_long))))
            ∙ ap (λ m. sum_below K m (λ i. K.mul (get_or (map lift row) i K.zero) (pow K alpha i)))
            (sym (length-map row lift))

        pub row_value : (sum value : A)
            → sum ≡ sum_below K (length row) (row_term F K lift powers row)
            → value ≡ K.mul sum (lift s.inv_vanishing)
            → value ≡ quotient_on_row F K lift air g n alpha entries x
        row_value sum value h v =
            v ∙ ap₂ K.mul (h ∙ sum_is ∙ ap (λ cs. val K cs alpha) lifted_row) lifted_inverse
