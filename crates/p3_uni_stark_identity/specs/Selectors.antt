-- What selects rows of a trace, at a point.
use Rattle.std.specs.Prelude.{◌≡◌, ℕ}
use Rattle.algebra.specs.Field.{FieldOps}
use Rattle.stark_algebra.specs.Selectors.{zerofier}
use Rattle.p3_air.specs.declared.air.Rows.{Rows}
use Rattle.p3_air.specs.declared.air.Rows.TheVariants as rows
use Rattle.p3_air_laws.specs.Composition.{selector}
use Rattle.p3_uni_stark_identity.specs.declared.selectors.LagrangeSelectors.{LagrangeSelectors}

-- the values at `z` of the selectors of the powers of `g`, of which there are `n`, and the inverse
-- of that of the polynomial that vanishes on them
pub record AreSelectorsAt {A : Type 0} (K : FieldOps A) (g : A) (n : ℕ) (z : A)
    (selectors : LagrangeSelectors A) : Type 0 where
  pub first : selectors.is_first_row ≡ selector K g n rows.First z
  pub last : selectors.is_last_row ≡ selector K g n rows.Last z
  pub transition : selectors.is_transition ≡ selector K g n rows.Transition z
  pub vanishing : selectors.inv_vanishing ≡ K.inv (zerofier K n z)
