-- A periodic column as a function on an extension.
use Rattle.std.specs.Prelude.{◌≡◌, ℕ, ◌%◌, ◌^◌, List, length, map, slice_index_or}
use Rattle.algebra.specs.Field.{FieldOps, pow}
use Rattle.stark_algebra.specs.Degrees.{HasDegreeBelow}
use Rattle.p3_periodic.specs.Values.{IsValueOf}

-- the function is the column's along `2^k` rows: of a degree below their number, it has the
-- column's entries at the rows' points, over the trace's field the column's values, and everywhere
-- those in the extension
pub record IsFunctionOf {V A : Type 0} (F : FieldOps V) (K : FieldOps A) (lift : V → A)
    (w : ℕ → V) (k : ℕ) (column : List V) (f : A → A) : Type 0 where
  pub degree : HasDegreeBelow K (2 ^ k) f
  pub rows_there : (i : ℕ) → f (pow K (lift (w k)) i)
      ≡ lift (slice_index_or column (i % length column) F.zero)
  pub values_below : (x v : V) → IsValueOf F w k x column v → lift v ≡ f (lift x)
  pub values : (z : A) → IsValueOf K (λ j. lift (w j)) k z (map lift column) (f z)
