-- Columns by their values on a coset.
use Rattle.std.specs.Prelude.{◌≡◌, ◌≢◌, ◌<◌, ℕ, ◌+◌, ◌%◌, List, [], length, All}
use Rattle.std.specs.Prelude.{Option, Some, None}
use Rattle.std.specs.Borrow.{Bor}
use Rattle.p3_matrix.specs.declared.dense.RowMajorMatrix.{RowMajorMatrix}
use Rattle.p3_matrix.specs.Matrix.{rows}
use Rattle.p3_air.specs.declared.air.AirLayout.{AirLayout}
use Rattle.p3_air.specs.Nodes.{Entries}
use Rattle.p3_air.specs.Satisfied.{row_at}
use Rattle.p3_uni_stark_quotient.specs.declared.columns.CosetColumns.{CosetColumns}

-- the rows of the trace and of the preprocessed columns at the points of a coset, the rows of the
-- periodic columns until they repeat, and the public values
pub record OnCoset (V : Type 0) : Type 0 where
  pub trace : List (List V)
  pub preprocessed : List (List V)
  pub periodic : List (List V)
  pub public_values : List V

module _ {V : Type 0} where
  -- the rows of a matrix, if there is one
  abbrev pub rows_if_any : Option (Bor (RowMajorMatrix V)) → List (List V)
  rows_if_any None = []
  rows_if_any (Some matrix) = rows matrix.now

  -- what a prover is given, as lists
  abbrev pub on_coset : CosetColumns V → OnCoset V
  on_coset columns = record {
    trace = rows columns.trace.now;
    preprocessed = rows_if_any columns.preprocessed;
    periodic = rows_if_any columns.periodic;
    public_values = columns.public_values.now;
  }

  -- what constraints see at point `i`, where the next row of the trace is `step` points further
  abbrev pub entries_on : (given : OnCoset V) (step i : ℕ) → Entries V V
  entries_on given step i = let after = (i + step) % length given.trace in record {
    local = row_at given.trace i;
    next = row_at given.trace after;
    preprocessed = row_at given.preprocessed i;
    preprocessed_next = row_at given.preprocessed after;
    public_values = given.public_values;
    periodic = row_at given.periodic (i % length given.periodic);
  }

  -- there is a row at each of `size` points, and rows have the widths that the layout tells
  pub record FitsCoset (layout : AirLayout) (size : ℕ) (given : OnCoset V) : Type 0 where
    pub height : length given.trace ≡ size
    pub widths : All (λ row. length row ≡ layout.width) given.trace
    pub preprocessed_height : layout.preprocessed_width ≢ 0 → length given.preprocessed ≡ size
    pub preprocessed_widths : All (λ row. length row ≡ layout.preprocessed_width) given.preprocessed
    pub periodic_height : layout.num_periodic_columns ≢ 0 → 0 < length given.periodic
    pub periodic_widths : All (λ row. length row ≡ layout.num_periodic_columns) given.periodic
    pub values : length given.public_values ≡ layout.num_public_values
