-- Columns as polynomials, and what constraints see of them.
use Rattle.std.specs.Prelude.{◌≡◌, ◌≤◌, ◌<◌, ℕ, List, length, map, All}
use Rattle.algebra.specs.Field.{FieldOps, pow}
use Rattle.algebra.specs.Polynomial.{val}
use Rattle.algebra.specs.Quotients.{values_at}
use Rattle.stark_algebra.specs.Degrees.{HasDegreeBelow}
use Rattle.p3_air.specs.Nodes.{Entries}
use Rattle.p3_air.specs.Satisfied.{Assigned, row_at, periodic_at}

-- the columns of the trace and the preprocessed ones, by coefficients in the trace's field, and the
-- periodic ones, as functions on an extension
pub record Columns (V A : Type 0) : Type 0 where
  pub trace : List (List V)
  pub preprocessed : List (List V)
  pub periodic : List (A → A)

module _ {V A : Type 0} (F : FieldOps V) (K : FieldOps A) (lift : V → A) where
  -- what constraints see at the point `z`, where the next row is at `y`
  abbrev pub entries_over : (columns : Columns V A) (public_values : List V) (z y : A)
      → Entries V A
  entries_over columns public_values z y = record {
    local = values_at F K lift columns.trace z;
    next = values_at F K lift columns.trace y;
    preprocessed = values_at F K lift columns.preprocessed z;
    preprocessed_next = values_at F K lift columns.preprocessed y;
    public_values = public_values;
    periodic = map (λ f. f z) columns.periodic;
  }

  -- the polynomials have at most `l` coefficients, and at the powers of `g`, of which there are
  -- `n`, the entries of what is given
  pub record AreColumnsOf (g : V) (n l : ℕ) (given : Assigned V) (columns : Columns V A) : Type 0
    where
      pub some_coefficient : 1 ≤ l
      pub trace_degrees : All (λ c. length c ≤ l) columns.trace
      pub preprocessed_degrees : All (λ c. length c ≤ l) columns.preprocessed
      pub periodic_degrees : All (λ f. HasDegreeBelow K l f) columns.periodic
      pub height : length given.trace ≡ n
      pub trace : (i : ℕ) → i < n
          → row_at given.trace i ≡ map (λ c. val F c (pow F g i)) columns.trace
      pub preprocessed : (i : ℕ) → i < n
          → row_at given.preprocessed i ≡ map (λ c. val F c (pow F g i)) columns.preprocessed
      pub periodic : (i : ℕ) → i < n
          → map lift (periodic_at F given.periodic i)
          ≡ map (λ f. f (pow K (lift g) i)) columns.periodic
