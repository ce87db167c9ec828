-- What selects a point of the domain, and all others.
use Rattle.std.proofs.Common.{◌≡◌, ◌≢◌, ℕ, zero, suc, ◌^◌, ◌<◌, ◌≤◌}
use Rattle.std.proofs.Common.{refl, sym, ap, ◌∙◌, arith, pow_pos}
use Rattle.algebra.specs.Field.{FieldOps, IsField, sub, pow}
use Rattle.algebra.specs.Polynomial.{val, quotient}
use Rattle.algebra.specs.TwoAdic.{AreRoots}
use Rattle.algebra.proofs.Ring.{◌:+◌, ◌:-◌, ◌:*◌, ◌:=◌, ring, o, :1, minus}
use Rattle.algebra.proofs.Combine.{sub-eq, cancel_zero}
use Rattle.algebra.proofs.Powers.{pow-suc_is}
use Rattle.algebra.proofs.Division.{divide, length-quotient}
use Rattle.stark_algebra.specs.Degrees.{HasDegreeBelow}
use Rattle.stark_algebra.specs.Selectors.{zerofier, point_selector, IsSelector}
use Rattle.stark_algebra.proofs.Degrees.{degree-more, degree-constant, degree-power, degree-sub}
use Rattle.stark_algebra.proofs.Vanishing.{points-zero, zero_from_points}

-- the polynomial of degree below `n` that selects `r` among the `n`-th roots of one
pub record Selects {A : Type 0} (F : FieldOps A) (n : ℕ) (r : A) (t : A → A) : Type 0 where
  pub degree : HasDegreeBelow F n t
  pub product : (x : A) → zerofier F n x ≡ F.mul (sub F x r) (t x)

module _ {A : Type 0} (F : FieldOps A) (L : IsField F) where
  infixl 65 ◌⊕◌
  infixl 70 ◌⊗◌
  open F use {zero as 𝟘, one as 𝟙, add as ◌⊕◌, mul as ◌⊗◌, neg, inv}

  pub zerofier-degree : (n : ℕ) → HasDegreeBelow F (suc n) (λ x. zerofier F n x)
  zerofier-degree n = degree-sub F L.ring (suc n) (λ x. pow F x n) (λ _. 𝟙) (degree-power F L.ring n)
      (degree-more F L.ring 1 (suc n) (λ _. 𝟙) (omega arith) (degree-constant F L.ring 𝟙))

  abbrev pub selector_of : (n : ℕ) (r x : A) → A
  selector_of n r x = val F (quotient F (HasDegreeBelow.polynomial (zerofier-degree n)) r) x

  pub selects : (n : ℕ) (r : A) → zerofier F n r ≡ 𝟘 → Selects F n r (selector_of n r)
  selects n r root =
      let h = zerofier-degree n in
      record {
        degree = record {
          polynomial = quotient F h.polynomial r;
          degree = length-quotient F h.polynomial r ∙ omega (arith, h.degree);
          values = λ x. refl;
        };
        product = λ x. h.values x ∙ divide F L.ring h.polynomial r x
            ∙ ap (λ v. v ⊕ sub F x r ⊗ val F (quotient F h.polynomial r) x) (sym (h.values r) ∙ root)
            ∙ ring F L.ring 1 (λ v. o :+ v := v) refl (sub F x r ⊗ val F (quotient F h.polynomial r) x);
      }

  -- elsewhere it is the quotient of values
  pub selector-formula : (n : ℕ) (r : A) (t : A → A) → Selects F n r t → (x : A) → x ≢ r
      → point_selector F n r x ≡ t x
  selector-formula n r t s x other =
      ap (λ z. z ⊗ inv (sub F x r)) (s.product x)
      ∙ ring F L.ring 3 (λ d t i. d :* t :* i := d :* i :* t) refl (sub F x r) (t x) (inv (sub F x r))
      ∙ ap (λ u. u ⊗ t x) (L.mul_inv (sub F x r) (λ e. other (sub-eq F L.ring e)))
      ∙ ring F L.ring 1 (λ t. :1 :* t := t) refl (t x)

  -- at another root of one it is zero
  pub selector-elsewhere : (n : ℕ) (r : A) (t : A → A) → Selects F n r t → (x : A) → x ≢ r
      → zerofier F n x ≡ 𝟘 → t x ≡ 𝟘
  selector-elsewhere n r t s x other root =
      cancel_zero F L (sub F x r) (t x) (λ e. other (sub-eq F L.ring e)) (sym (s.product x) ∙ root)

  pub zerofier-zero : (n : ℕ) → zerofier F (suc n) 𝟘 ≡ neg 𝟙
  zerofier-zero n = ap (λ p. sub F p 𝟙) (pow-suc_is F 𝟘 n)
      ∙ ring F L.ring 1 (λ p. o :* p :- :1 := minus :1) refl (pow F 𝟘 n)

  zerofier-somewhere : (n : ℕ) → 0 < n → zerofier F n 𝟘 ≢ 𝟘
  zerofier-somewhere zero p e = omega (arith, p)
  zerofier-somewhere (suc n) p e = L.one_not_zero
      (ring F L.ring 0 (:1 := minus (minus :1)) refl
      ∙ ap neg (sym (zerofier-zero n) ∙ e)
      ∙ ring F L.ring 0 (minus o := o) refl)

  module _ (top : ℕ) (w : ℕ → A) (W : AreRoots F top w) (k : ℕ) (b : k ≤ top) where
    -- at the point it isn't zero
    pub selector-there : (r : A) (t : A → A) → Selects F (2 ^ k) r t → t r ≢ 𝟘
    selector-there r t s e =
        zerofier-somewhere (2 ^ k) (pow_pos k)
        (s.product 𝟘 ∙ ap (λ v. sub F 𝟘 r ⊗ v)
        (zero_from_points F L top w W k b t s.degree (λ i l. each (pow F (w k) i) (points-zero F L top w W k b i)) 𝟘)
        ∙ ring F L.ring 1 (λ v. v :* o := o) refl (sub F 𝟘 r))
      where
        each : (x : A) → zerofier F (2 ^ k) x ≡ 𝟘 → t x ≡ 𝟘
        each x root = elim (L.decided x r) [
          | yes same ↦ ap t same ∙ e
          | no other ↦ selector-elsewhere (2 ^ k) r t s x other root
        ]

    -- each point has its selector
    pub is_selector : (i : ℕ) → (t : A → A) × IsSelector F (2 ^ k) (pow F (w k) i) t
    is_selector i =
        let r = pow F (w k) i in
        let s = selects (2 ^ k) r (points-zero F L top w W k b i) in (
          selector_of (2 ^ k) r,
          record {
            degree = s.degree;
            formula = λ x other. sym (selector-formula (2 ^ k) r (selector_of (2 ^ k) r) s x other);
            elsewhere = selector-elsewhere (2 ^ k) r (selector_of (2 ^ k) r) s;
            there = selector-there r (selector_of (2 ^ k) r) s;
          },
        )
