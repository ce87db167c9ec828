-- Constraints' values, selected and put together.
use Rattle.std.specs.Prelude.{ℕ, List, map, reverse, slice_index_or}
use Rattle.algebra.specs.Field.{FieldOps}
use Rattle.algebra.specs.Polynomial.{val}
use Rattle.p3_air.specs.declared.air.Rows.{Rows}
use Rattle.p3_air.specs.declared.air.Rows.TheVariants as rows
use Rattle.p3_air.specs.declared.air.Constraint.{Constraint}
use Rattle.p3_uni_stark_identity.specs.declared.selectors.LagrangeSelectors.{LagrangeSelectors}

module _ {A : Type 0} (K : FieldOps A) (selectors : LagrangeSelectors A) where
  -- a value on these rows, times their selector
  abbrev pub selected_by : Rows → (value : A) → A
  selected_by rows.All value = value
  selected_by rows.First value = K.mul selectors.is_first_row value
  selected_by rows.Last value = K.mul selectors.is_last_row value
  selected_by rows.Transition value = K.mul selectors.is_transition value

  -- where nodes have these values, the constraints' by powers of `alpha`, the last one times one
  abbrev pub folded_by : (values : List A) → List Constraint → (alpha : A) → A
  folded_by values constraints alpha = val K (map (λ c. selected_by c.rows
      (slice_index_or values c.node K.zero)) (reverse constraints)) alpha
