-- What the quotient's values at all points come of.
use Rattle.std.specs.Prelude.{◌≡◌, ◌≢◌, ◌<◌, ◌≤◌, ◌^◌, ℕ, length, reverse, slice_index_or}
use Rattle.algebra.specs.Field.{FieldOps, pow}
use Rattle.algebra.specs.Polynomial.{tabulate}
use Rattle.stark_algebra.specs.Selectors.{zerofier}
use Rattle.p3_air.specs.WellFormed.{IsWellFormed}
use Rattle.p3_uni_stark_identity.specs.Selectors.{AreSelectorsAt}
use Rattle.p3_uni_stark_quotient.specs.declared.rows.Prepared.{Prepared}
use Rattle.p3_uni_stark_quotient.specs.Given.{on_coset, entries_on, FitsCoset}
use Rattle.p3_uni_stark_quotient.specs.Quotient.{quotient_on_row}

-- its parts fit each other
pub record IsReady {V A : Type 0} (prepared : Prepared V A) : Type 0 where
  pub well_formed : IsWellFormed prepared.air.now
  pub columns : FitsCoset prepared.air.now.layout (length prepared.selectors.now)
      (on_coset prepared.columns)
  pub room : length prepared.selectors.now ≤ 2 ^ 63
  pub step : prepared.step ≤ length prepared.selectors.now
  pub reversed : prepared.reversed.now ≡ reverse prepared.air.now.constraints.items
  pub powers : length prepared.powers.now ≡ length prepared.reversed.now

module _ {V A : Type 0} (F : FieldOps V) (K : FieldOps A) (prepared : Prepared V A) (g : V) (n : ℕ)
    (alpha : A) (x : ℕ → V) where
  -- it has the powers of `alpha`, and the selectors at the points `x` of the powers of `g`, of
  -- which there are `n`; none of these points is one of them
  pub record IsPreparedFor : Type 0 where
    pub powers : prepared.powers.now ≡ tabulate (length prepared.reversed.now) (λ i. pow K alpha i)
    pub selectors : (i : ℕ) (s : _) → i < length prepared.selectors.now
        → AreSelectorsAt F g n (x i) (slice_index_or prepared.selectors.now i s)
    pub off : (i : ℕ) → i < length prepared.selectors.now → zerofier F n (x i) ≢ F.zero
    pub generator : g ≢ F.zero
    pub first : zerofier F n F.one ≡ F.zero
    pub last : zerofier F n (F.inv g) ≡ F.zero

  -- the quotient's value at a point
  abbrev pub quotient_at : (lift : V → A) → (i : ℕ) → A
  quotient_at lift i = quotient_on_row F K lift prepared.air.now g n alpha
      (entries_on (on_coset prepared.columns) prepared.step i) (x i)
