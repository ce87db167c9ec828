-- Sums of constraints, as functions of the point, and quotients of them.
use Rattle.std.proofs.Common.{◌≡◌, ◌≢◌, inl, inr, ℕ, suc, pred, ◌+◌, ◌*◌, ◌^◌, ◌<◌, ◌≤◌, List}
use Rattle.std.proofs.Common.{map, reverse, refl, sym, ap, ◌∙◌, arith, pow_pos}
use Rattle.algebra.specs.Field.{FieldOps, IsField, sub, pow}
use Rattle.algebra.specs.Polynomial.{val}
use Rattle.algebra.specs.TwoAdic.{AreRoots}
use Rattle.algebra.proofs.Ring.{◌:*◌, ◌:=◌, ring}
use Rattle.algebra.proofs.RingLaws.{zero_mul, mul_zero, one_mul}
use Rattle.algebra.proofs.Combine.{cancel_zero}
use Rattle.algebra.proofs.Lists.{Each}
use Rattle.stark_algebra.specs.Degrees.{HasDegreeBelow}
use Rattle.stark_algebra.specs.Selectors.{zerofier}
use Rattle.stark_algebra.proofs.Degrees.{degree-more, degree-constant, degree-identity, degree-sub}
use Rattle.stark_algebra.proofs.Degrees.{degree-mul}
use Rattle.stark_algebra.proofs.Selectors.{zerofier-degree, selects, selector_of}
use Rattle.p3_air.specs.declared.air.Rows.{Rows}
use Rattle.p3_air.specs.declared.air.Rows.TheVariants as rows
use Rattle.p3_air.specs.declared.air.Constraint.{Constraint}
use Rattle.p3_air.specs.Satisfied.{IsAmong}
use Rattle.p3_air_laws.specs.Composition.{selector_degree}
use Rattle.p3_air_laws.proofs.Rows.{selector_function, selector-cases, one-root, last-root, before}
use Rattle.p3_air_laws.proofs.Folded.{each-reverse, fold-degree}

module _ {A : Type 0} (K : FieldOps A) (M : IsField K) (top : ℕ) (w : ℕ → A) (W : AreRoots K top w)
    (k : ℕ) (b : k ≤ top) where
  open K use {zero as 𝟘, one as 𝟙, inv}

  pub selected-degree : (r : Rows) (d B : ℕ) (f : A → A) → d + selector_degree (2 ^ k) r < B
      → HasDegreeBelow K (suc d) f
      → HasDegreeBelow K B (λ z. K.mul (selector_function K M top w W k b r z) (f z))
  selected-degree rows.All d B f l h =
      degree-more K M.ring (suc (0 + d)) B (λ z. K.mul 𝟙 (f z)) (omega (arith, l))
      (degree-mul K M.ring 0 d (λ _. 𝟙) f (degree-constant K M.ring 𝟙) h)
  selected-degree rows.First d B f l h =
      degree-more K M.ring (suc (pred (2 ^ k) + d)) B (λ z. K.mul (selector_of K M (2 ^ k) 𝟙 z) (f z)) (omega (arith, l))
      (degree-mul K M.ring (pred (2 ^ k)) d (selector_of K M (2 ^ k) 𝟙) f
      (degree-more K M.ring (2 ^ k) (suc (pred (2 ^ k))) (selector_of K M (2 ^ k) 𝟙) (omega arith) (let t = selects K M (2 ^ k) 𝟙 (one-root K M top w W k b) in t.degree)) h)
  selected-degree rows.Last d B f l h =
      degree-more K M.ring (suc (pred (2 ^ k) + d)) B (λ z. K.mul (selector_of K M (2 ^ k) (inv (w k)) z) (f z)) (omega (arith, l))
      (degree-mul K M.ring (pred (2 ^ k)) d (selector_of K M (2 ^ k) (inv (w k))) f
      (degree-more K M.ring (2 ^ k) (suc (pred (2 ^ k))) (selector_of K M (2 ^ k) (inv (w k))) (omega arith) (let t = selects K M (2 ^ k) (inv (w k)) (last-root K M top w W k b) in t.degree)) h)
  selected-degree rows.Transition d B f l h =
      degree-more K M.ring (suc (1 + d)) B (λ z. K.mul (sub K z (inv (w k))) (f z)) (omega (arith, l))
      (degree-mul K M.ring 1 d (λ z. sub K z (inv (w k))) f
      (degree-sub K M.ring 2 (λ z. z) (λ _. inv (w k)) (degree-identity K M.ring) (degree-more K M.ring 1 2 (λ _. inv (w k)) (omega arith) (degree-constant K M.ring (inv (w k))))) h)

  pub product-degree : (m : ℕ) (q : A → A) → 1 ≤ m → HasDegreeBelow K (m * 2 ^ k) q
      → HasDegreeBelow K (suc m * 2 ^ k) (λ z. K.mul (zerofier K (2 ^ k) z) (q z))
  product-degree m q s h = with_size (before K M top w W k b (m * 2 ^ k) (some m (2 ^ k) s (pow_pos k)))
    where
      some : (m n : ℕ) → 1 ≤ m → 0 < n → 0 < m * n
      some m n p q = grind arith

      with_size : (e : ℕ) × (suc e ≡ m * 2 ^ k) → HasDegreeBelow K (suc m * 2 ^ k) (λ z. K.mul (zerofier K (2 ^ k) z) (q z))
      with_size e = degree-more K M.ring (suc (2 ^ k + e.0)) (suc m * 2 ^ k) (λ z. K.mul (zerofier K (2 ^ k) z) (q z)) (total (2 ^ k) e.0 e.1)
          (degree-mul K M.ring (2 ^ k) e.0 (λ z. zerofier K (2 ^ k) z) q (zerofier-degree K M (2 ^ k))
          (degree-more K M.ring (m * 2 ^ k) (suc e.0) q (omega (arith, e.1)) h))
        where
          total : (n e : ℕ) → suc e ≡ m * n → suc (n + e) ≤ suc m * n
          total n e h = omega (arith, h)

  -- from `f / Z = q`
  pub multiplied : (f z q : A) → z ≢ 𝟘 → K.mul f (inv z) ≡ q → f ≡ K.mul z q
  multiplied f z q n e =
      sym (M.mul_one f) ∙ ap (λ u. K.mul f u) (sym (M.mul_inv z n))
      ∙ ring K M.ring 3 (λ f z i. f :* (z :* i) := z :* (f :* i)) refl f z (inv z)
      ∙ ap (λ v. K.mul z v) e

  pub divided_by : (f z q : A) → z ≢ 𝟘 → f ≡ K.mul z q → K.mul f (inv z) ≡ q
  divided_by f z q n e =
      ap (λ v. K.mul v (inv z)) e
      ∙ ring K M.ring 3 (λ z q i. z :* q :* i := z :* i :* q) refl z q (inv z)
      ∙ ap (λ u. K.mul u q) (M.mul_inv z n) ∙ one_mul K M.ring q

  -- each constraint has a value at each point
  module _ (value : Constraint → A → A) where
    abbrev pub selected_function : Constraint → A → A
    selected_function c z = K.mul (selector_function K M top w W k b c.rows z) (value c z)

    abbrev pub sum_function : (constraints : List Constraint) (alpha z : A) → A
    sum_function constraints alpha z =
        val K (map (λ c. selected_function c z) (reverse constraints)) alpha

    -- at a row on which the constraint has to hold, its value is zero where the product is
    pub to_row : (c : Constraint) (i : ℕ) → i < 2 ^ k → selected_function c (pow K (w k) i) ≡ 𝟘
        → IsAmong (2 ^ k) i c.rows → value c (pow K (w k) i) ≡ 𝟘
    to_row c i l h among = elim (selector-cases K M top w W k b c.rows i l) [
      | inl s ↦ cancel_zero K M (selector_function K M top w W k b c.rows (pow K (w k) i))
          (value c (pow K (w k) i)) s.1 h
      | inr s ↦ absurd (s.0 among)
    ]

    -- and the product is zero where the value is on such rows
    pub from_row : (c : Constraint) (i : ℕ) → i < 2 ^ k
        → (IsAmong (2 ^ k) i c.rows → value c (pow K (w k) i) ≡ 𝟘)
        → selected_function c (pow K (w k) i) ≡ 𝟘
    from_row c i l h = elim (selector-cases K M top w W k b c.rows i l) [
      | inl s ↦ ap (λ v. K.mul (selector_function K M top w W k b c.rows (pow K (w k) i)) v)
          (h s.0) ∙ mul_zero K M.ring (selector_function K M top w W k b c.rows (pow K (w k) i))
      | inr s ↦ ap (λ v. K.mul v (value c (pow K (w k) i))) s.1
          ∙ zero_mul K M.ring (value c (pow K (w k) i))
    ]

    pub sum_degree : (d : ℕ) (constraints : List Constraint) (alpha : A)
        → Each (λ c. HasDegreeBelow K d (selected_function c)) constraints
        → HasDegreeBelow K d (λ z. sum_function constraints alpha z)
    sum_degree d constraints alpha each =
        fold-degree K M selected_function d alpha (reverse constraints)
        (each-reverse (λ c. HasDegreeBelow K d (selected_function c)) constraints each)
