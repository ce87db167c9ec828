-- Selectors at the points of a coset.
use Rattle.std.proofs.Common.{◌≡◌, ◌≢◌, ℕ, ◌+◌, ◌^◌, ◌<◌, ◌≤◌, List, [], ◌∷◌, ◌++◌, length, map, get_or}
use Rattle.std.proofs.Common.{All, refl, sym, ap, ap₂, subst, ◌∙◌, arith, ◌⊎◌, inl, inr, mul_comm}
use Rattle.std.proofs.lemmas.List.{length-map, get_or-map, get_or_append_left, get_or_push}
use Rattle.algebra.specs.Field.{FieldOps, IsField, sub, pow}
use Rattle.algebra.specs.Polynomial.{tabulate}
use Rattle.algebra.specs.TwoAdic.{AreRoots}
use Rattle.algebra.proofs.Lifting.{identity_homomorphism}
use Rattle.algebra.proofs.Lists.{length-tabulate, get_or-tabulate}
use Rattle.algebra.proofs.Powers.{pow-mul, pow-times}
use Rattle.p3_field_core.specs.Coset.{coset_point}
use Rattle.p3_uni_stark_identity.specs.declared.selectors.LagrangeSelectors.{LagrangeSelectors}
use Rattle.p3_uni_stark_identity.specs.Selectors.{AreSelectorsAt}
use Rattle.p3_uni_stark_identity.specs.Laws.{IsOffSubgroup}
use Rattle.p3_uni_stark_identity.proofs.Points.{off_first, off_last}

-- what holds of the images holds of each
pub all_mapped : {X Y : Type 0} (P : Y → Type 0) (f : X → Y) (xs : List X) (ys : List Y)
    → ys ≡ map f xs → All (λ x. P (f x)) xs → All P ys
all_mapped P f [] ys e h = subst (λ zs. All P zs) (sym e) (λ i d l. absurd (omega (arith, l)))
all_mapped P f (x ∷ xs) ys e h = subst (λ zs. All P zs) (sym e) (λ i d l.
    subst P (sym (get_or-map f (x ∷ xs) i x d (omega (arith, l, length-map (x ∷ xs) f))))
    (h i x (omega (arith, l, length-map (x ∷ xs) f))))

-- what holds of each of those before holds with one more
pub each_pushed : {X : Type 0} (P : ℕ → X → Type 0) (xs ys : List X) (x : X) (i : ℕ)
    → ys ≡ xs ++ x ∷ [] → length xs ≡ i → ((j : ℕ) (d : X) → j < i → P j (get_or xs j d))
    → P i x → (j : ℕ) (d : X) → j < i + 1 → P j (get_or ys j d)
each_pushed P xs ys x i grown long h here j d l = elim (decide j i) [
  | inl e ↦ subst (λ m. P m (get_or ys m d)) (sym e)
      (subst (λ y. P i y) (sym (ap (λ zs. get_or zs i d) grown ∙ get_or_push xs x d i long)) here)
  | inr n ↦ subst (λ y. P j y)
      (sym (ap (λ zs. get_or zs j d) grown
      ∙ get_or_append_left xs (x ∷ []) d j (omega (arith, n, l, long))))
      (h j d (omega (arith, n, l)))
]
  where
    decide : (a b : ℕ) → (a ≡ b) ⊎ (a ≢ b)
    decide a b = grind arith

module _ {A : Type 0} (F : FieldOps A) (L : IsField F) (top : ℕ) (w : ℕ → A) (W : AreRoots F top w)
    (k : ℕ) (b : k ≤ top) (r shift : A) (N : ℕ) (off : IsOffSubgroup F r shift k) where
  abbrev point : ℕ → A
  point i = coset_point F r shift i

  power_is : (i : ℕ) → F.mul (pow F shift (2 ^ k)) (pow F (pow F r (2 ^ k)) i)
      ≡ pow F (point i) (2 ^ k)
  power_is i =
      ap (λ p. F.mul (pow F shift (2 ^ k)) p)
      (sym (pow-mul F L.ring r i (2 ^ k)) ∙ ap (λ m. pow F r m) (mul_comm i (2 ^ k))
      ∙ pow-mul F L.ring r (2 ^ k) i)
      ∙ pow-times F L.ring shift (pow F r i) (2 ^ k)

  first_off : (i : ℕ) → sub F (point i) F.one ≢ F.zero
  first_off i = off_first F F L L (λ x. x) (identity_homomorphism F) top w W k b (point i)
      (sub F (point i) F.one) (off i) refl

  last_off : (i : ℕ) → sub F (point i) (F.inv (w k)) ≢ F.zero
  last_off i = off_last F F L L (λ x. x) (identity_homomorphism F) top w W k b (point i)
      (sub F (point i) (F.inv (w k))) (off i) refl

  module _ (points : List A) (points_are : points ≡ tabulate N point) where
    points_at : (i : ℕ) (d : A) → i < length points → get_or points i d ≡ point i
    points_at i d l = ap (λ xs. get_or xs i d) points_are
        ∙ get_or-tabulate N point i d (omega (arith, l, ap length points_are, length-tabulate N point))

    pub firsts_off : (c : A) → c ≡ F.one → All (λ x. sub F x c ≢ F.zero) points
    firsts_off c e i d l z = first_off i
        (ap₂ (λ x y. sub F x y) (sym (points_at i d l)) (sym e) ∙ z)

    pub lasts_off : (c : A) → c ≡ F.inv (w k) → All (λ x. sub F x c ≢ F.zero) points
    lasts_off c e i d l z = last_off i
        (ap₂ (λ x y. sub F x y) (sym (points_at i d l)) (sym e) ∙ z)

    module _ (powers : List A) (powers_are : powers ≡ tabulate N
        (λ i. F.mul (pow F shift (2 ^ k)) (pow F (pow F r (2 ^ k)) i))) where
      powers_at : (i : ℕ) (d : A) → i < length powers → get_or powers i d ≡ pow F (point i) (2 ^ k)
      powers_at i d l = ap (λ xs. get_or xs i d) powers_are
          ∙ get_or-tabulate N (λ i. F.mul (pow F shift (2 ^ k)) (pow F (pow F r (2 ^ k)) i)) i d
          (omega (
            arith,
            l,
            ap length powers_are,
            length-tabulate N (λ i. F.mul (pow F shift (2 ^ k)) (pow F (pow F r (2 ^ k)) i)),
          ))
          ∙ power_is i

      pub powers_off : (c : A) → c ≡ F.one → All (λ x. sub F x c ≢ F.zero) powers
      powers_off c e i d l z = off i
          (ap₂ (λ x y. sub F x y) (sym (powers_at i d l)) (sym e) ∙ z)

      points_long : length points ≡ N
      points_long = ap length points_are ∙ length-tabulate N point

      powers_long : length powers ≡ N
      powers_long = ap length powers_are
          ∙ length-tabulate N (λ i. F.mul (pow F shift (2 ^ k)) (pow F (pow F r (2 ^ k)) i))

      -- an entry of differences, and of their inverses
      difference_at : (xs ys : List A) (c v : A) (i : ℕ) → ys ≡ map (λ x. sub F x c) xs
          → i < length xs → get_or xs i F.zero ≡ v → get_or ys i F.zero ≡ sub F v c
      difference_at xs ys c v i e l at =
          ap (λ zs. get_or zs i F.zero) e ∙ get_or-map (λ x. sub F x c) xs i F.zero F.zero l
          ∙ ap (λ x. sub F x c) at

      inverse_at : (xs ys : List A) (c v : A) (i : ℕ)
          → ys ≡ map F.inv (map (λ x. sub F x c) xs) → i < length xs → get_or xs i F.zero ≡ v
          → get_or ys i F.zero ≡ F.inv (sub F v c)
      inverse_at xs ys c v i e l at =
          ap (λ zs. get_or zs i F.zero) e
          ∙ get_or-map F.inv (map (λ x. sub F x c) xs) i F.zero F.zero
          (omega (arith, l, length-map xs (λ x. sub F x c)))
          ∙ ap F.inv (get_or-map (λ x. sub F x c) xs i F.zero F.zero l ∙ ap (λ x. sub F x c) at)

      pub selectors_are : (one last : A) → one ≡ F.one → last ≡ F.inv (w k)
          → (vanishing inv_vanishing inv_first from_last inv_last : List A)
          → vanishing ≡ map (λ x. sub F x one) powers
          → inv_vanishing ≡ map F.inv (map (λ x. sub F x one) powers)
          → inv_first ≡ map F.inv (map (λ x. sub F x one) points)
          → from_last ≡ map (λ x. sub F x last) points
          → inv_last ≡ map F.inv (map (λ x. sub F x last) points)
          → (i : ℕ) → i < N → (s : LagrangeSelectors A)
          → s.is_first_row ≡ F.mul (get_or vanishing i F.zero) (get_or inv_first i F.zero)
          → s.is_last_row ≡ F.mul (get_or vanishing i F.zero) (get_or inv_last i F.zero)
          → s.is_transition ≡ get_or from_last i F.zero
          → s.inv_vanishing ≡ get_or inv_vanishing i F.zero
          → AreSelectorsAt F (w k) (2 ^ k) (point i) s
      selectors_are one last oe le vanishing inv_vanishing inv_first from_last inv_last ve ive ife fle ile i l s sf sl st sv =
          let here = points_at i F.zero (omega (arith, l, points_long)) in
          let there = powers_at i F.zero (omega (arith, l, powers_long)) in
          let inside : i < length points = omega (arith, l, points_long) in
          let within : i < length powers = omega (arith, l, powers_long) in
          let z = difference_at powers vanishing one (pow F (point i) (2 ^ k)) i ve within there
          ∙ ap (λ x. sub F (pow F (point i) (2 ^ k)) x) oe in
          record {
            first = sf ∙ ap₂ F.mul z (inverse_at points inv_first one (point i) i ife inside here
                ∙ ap (λ x. F.inv (sub F (point i) x)) oe);
            last = sl ∙ ap₂ F.mul z (inverse_at points inv_last last (point i) i ile inside here
                ∙ ap (λ x. F.inv (sub F (point i) x)) le);
            transition = st ∙ difference_at points from_last last (point i) i fle inside here
                ∙ ap (λ x. sub F (point i) x) le;
            vanishing = sv
                ∙ inverse_at powers inv_vanishing one (pow F (point i) (2 ^ k)) i ive within there
                ∙ ap (λ x. F.inv (sub F (pow F (point i) (2 ^ k)) x)) oe;
          }

      pub lengths_are : (one : A) (ys : List A) → ys ≡ map (λ x. sub F x one) powers → length ys ≡ N
      lengths_are one ys e = ap length e ∙ length-map powers (λ x. sub F x one) ∙ powers_long

      pub lengths_inverted : (one : A) (ys : List A) → ys ≡ map F.inv (map (λ x. sub F x one) powers)
          → length ys ≡ N
      lengths_inverted one ys e = ap length e ∙ length-map (map (λ x. sub F x one) powers) F.inv
          ∙ length-map powers (λ x. sub F x one) ∙ powers_long

    pub point_lengths : (c : A) (ys : List A) → ys ≡ map (λ x. sub F x c) points → length ys ≡ N
    point_lengths c ys e = ap length e ∙ length-map points (λ x. sub F x c)
        ∙ ap length points_are ∙ length-tabulate N point

    pub point_lengths_inverted : (c : A) (ys : List A)
        → ys ≡ map F.inv (map (λ x. sub F x c) points) → length ys ≡ N
    point_lengths_inverted c ys e = ap length e ∙ length-map (map (λ x. sub F x c) points) F.inv
        ∙ length-map points (λ x. sub F x c) ∙ ap length points_are ∙ length-tabulate N point
