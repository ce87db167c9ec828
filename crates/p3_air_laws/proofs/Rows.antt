-- Selectors at the points of the domain, and the row after a row.
use Rattle.std.proofs.Common.{◌≡◌, ◌≢◌, ◌⊎◌, inl, inr, ℕ, zero, suc, ◌+◌, ◌%◌, ◌^◌, ◌<◌, ◌≤◌}
use Rattle.std.proofs.Common.{refl, sym, ap, ◌∙◌, arith, pow_pos}
use Rattle.std.proofs.Math.Nat.{mod_self, mod-eq_of_lt}
use Rattle.algebra.specs.Field.{FieldOps, IsField, sub, pow}
use Rattle.algebra.specs.TwoAdic.{AreRoots}
use Rattle.algebra.proofs.Combine.{sub-eq, sub-self, inverse_unique}
use Rattle.algebra.proofs.Powers.{pow-zero, pow-suc_is}
use Rattle.algebra.proofs.Points.{full_turn, powers_differ, root-nonzero}
use Rattle.stark_algebra.specs.Selectors.{zerofier}
use Rattle.stark_algebra.proofs.Vanishing.{points-zero}
use Rattle.stark_algebra.proofs.Selectors.{selector_of, selects, selector-formula, selector-elsewhere, selector-there}
use Rattle.p3_air.specs.declared.air.Rows.{Rows}
use Rattle.p3_air.specs.declared.air.Rows.TheVariants as rows
use Rattle.p3_air.specs.Satisfied.{IsAmong}
use Rattle.p3_air_laws.specs.Composition.{selector}

module _ {A : Type 0} (K : FieldOps A) (M : IsField K) (top : ℕ) (w : ℕ → A) (W : AreRoots K top w)
    (k : ℕ) (b : k ≤ top) where
  open K use {zero as 𝟘, one as 𝟙, inv}

  abbrev pub selector_function : Rows → A → A
  selector_function rows.All z = 𝟙
  selector_function rows.First z = selector_of K M (2 ^ k) 𝟙 z
  selector_function rows.Last z = selector_of K M (2 ^ k) (inv (w k)) z
  selector_function rows.Transition z = sub K z (inv (w k))

  turn : (i : ℕ) → suc i ≡ 2 ^ k → K.mul (w k) (pow K (w k) i) ≡ 𝟙
  turn i e = sym (pow-suc_is K (w k) i) ∙ ap (λ j. pow K (w k) j) e ∙ full_turn K M top w W k b

  -- the last point is the inverse of the generator
  last_point : (i : ℕ) → suc i ≡ 2 ^ k → pow K (w k) i ≡ inv (w k)
  last_point i e = inverse_unique K M (w k) (pow K (w k) i) (root-nonzero K M top w W k b) (turn i e)

  other_point : (i : ℕ) → suc i < 2 ^ k → pow K (w k) i ≢ inv (w k)
  other_point i l e =
      let h : suc i ≡ 0 = powers_differ K M top w W k (suc i) 0 b l (pow_pos k)
      (pow-suc_is K (w k) i ∙ ap (λ y. K.mul (w k) y) e ∙ M.mul_inv (w k) (root-nonzero K M top w W k b) ∙ sym (pow-zero K (w k))) in
      omega (arith, h)

  first_point : (i : ℕ) → i < 2 ^ k → pow K (w k) i ≡ 𝟙 → i ≡ 0
  first_point i l e = powers_differ K M top w W k i 0 b l (pow_pos k) (e ∙ sym (pow-zero K (w k)))

  pub one-root : zerofier K (2 ^ k) 𝟙 ≡ 𝟘
  one-root = ap (λ x. zerofier K (2 ^ k) x) (sym (pow-zero K (w k))) ∙ points-zero K M top w W k b 0

  pub before : (n : ℕ) → 0 < n → (i : ℕ) × (suc i ≡ n)
  before zero p = absurd (omega (arith, p))
  before (suc i) p = (i, refl)

  pub last-root : zerofier K (2 ^ k) (inv (w k)) ≡ 𝟘
  last-root =
      let h = before (2 ^ k) (pow_pos k) in
      ap (λ x. zerofier K (2 ^ k) x) (sym (last_point h.0 h.1)) ∙ points-zero K M top w W k b h.0

  -- off the domain the verifier's formulas give the polynomials' values
  pub selector-agrees : (r : Rows) (z : A) → zerofier K (2 ^ k) z ≢ 𝟘
      → selector K (w k) (2 ^ k) r z ≡ selector_function r z
  selector-agrees rows.All z off = refl
  selector-agrees rows.First z off = selector-formula K M (2 ^ k) 𝟙 (selector_of K M (2 ^ k) 𝟙)
      (selects K M (2 ^ k) 𝟙 one-root) z (λ e. off (ap (λ x. zerofier K (2 ^ k) x) e ∙ one-root))
  selector-agrees rows.Last z off = selector-formula K M (2 ^ k) (inv (w k)) (selector_of K M (2 ^ k) (inv (w k)))
      (selects K M (2 ^ k) (inv (w k)) last-root) z (λ e. off (ap (λ x. zerofier K (2 ^ k) x) e ∙ last-root))
  selector-agrees rows.Transition z off = refl

  abbrev pub Selected : Rows → ℕ → Type 0
  Selected r i = (IsAmong (2 ^ k) i r × (selector_function r (pow K (w k) i) ≢ 𝟘))
      ⊎ ((IsAmong (2 ^ k) i r → ⊥) × (selector_function r (pow K (w k) i) ≡ 𝟘))

  decide : (i j : ℕ) → (i ≡ j) ⊎ (i ≢ j)
  decide i j = grind arith

  -- a row is selected, or not
  pub selector-cases : (r : Rows) (i : ℕ) → i < 2 ^ k → Selected r i
  selector-cases rows.All i l = inl (tt, M.one_not_zero)
  selector-cases rows.First i l = elim (decide i 0) [
    | inl e ↦ inl (
      e,
      λ z. selector-there K M top w W k b 𝟙 (selector_of K M (2 ^ k) 𝟙) (selects K M (2 ^ k) 𝟙 one-root)
          (ap (λ x. selector_of K M (2 ^ k) 𝟙 x) (sym (ap (λ j. pow K (w k) j) e ∙ pow-zero K (w k))) ∙ z),
    )
    | inr n ↦ inr (
      n,
      selector-elsewhere K M (2 ^ k) 𝟙 (selector_of K M (2 ^ k) 𝟙) (selects K M (2 ^ k) 𝟙 one-root)
          (pow K (w k) i) (λ e. n (first_point i l e)) (points-zero K M top w W k b i),
    )
  ]
  selector-cases rows.Last i l = elim (decide (suc i) (2 ^ k)) [
    | inl e ↦ inl (
      e,
      λ z. selector-there K M top w W k b (inv (w k)) (selector_of K M (2 ^ k) (inv (w k)))
          (selects K M (2 ^ k) (inv (w k)) last-root)
          (ap (λ x. selector_of K M (2 ^ k) (inv (w k)) x) (sym (last_point i e)) ∙ z),
    )
    | inr n ↦ inr (
      n,
      selector-elsewhere K M (2 ^ k) (inv (w k)) (selector_of K M (2 ^ k) (inv (w k)))
          (selects K M (2 ^ k) (inv (w k)) last-root)
          (pow K (w k) i) (other_point i (omega (arith, n, l))) (points-zero K M top w W k b i),
    )
  ]
  selector-cases rows.Transition i l = elim (decide (suc i) (2 ^ k)) [
    | inl e ↦ inr (λ s. omega (arith, s, e), ap (λ x. sub K x (inv (w k))) (last_point i e) ∙ sub-self K M.ring (inv (w k)))
    | inr n ↦ inl (omega (arith, n, l), λ z. other_point i (omega (arith, n, l)) (sub-eq K M.ring z))
  ]

  -- the point after the last is the first
  pub next_point : (i : ℕ) → i < 2 ^ k → pow K (w k) ((i + 1) % 2 ^ k) ≡ K.mul (w k) (pow K (w k) i)
  next_point i l = elim (decide (suc i) (2 ^ k)) [
    | inl e ↦ ap (λ j. pow K (w k) j) (wrapped (2 ^ k) e) ∙ pow-zero K (w k) ∙ sym (turn i e)
    | inr n ↦ ap (λ j. pow K (w k) j) (inside (2 ^ k) (omega (arith, n, l))) ∙ pow-suc_is K (w k) i
  ]
    where
      wrapped : (n : ℕ) → suc i ≡ n → (i + 1) % n ≡ 0
      wrapped n e = ap (λ j. j % n) (let h : i + 1 ≡ n = omega (arith, e) in h) ∙ mod_self n

      inside : (n : ℕ) → suc i < n → (i + 1) % n ≡ suc i
      inside n s = mod-eq_of_lt (let h : i + 1 < n = omega (arith, s) in h) ∙ omega arith
