-- What calls are given, as lists, and why its shape is refused.
use Rattle.std.specs.Prelude.{◌≡◌, ◌≢◌, ◌<◌, ⊤, ℕ, ◌⊎◌, List, length, All, take}
use Rattle.std.specs.List.{HoldsAt}
use Rattle.algebra.specs.Field.{FieldOps}
use Rattle.algebra.specs.Nested.{lists}
use Rattle.p3_air.specs.declared.air.Air.{Air}
use Rattle.p3_air.specs.declared.air.AirLayout.{AirLayout}
use Rattle.p3_air.specs.declared.air.Constraint.{Constraint}
use Rattle.p3_air.specs.declared.assignment.Assignment.{Assignment}
use Rattle.p3_air.specs.declared.evaluation.Window.{Window}
use Rattle.p3_air.specs.declared.error.TraceError.{TraceError}
use Rattle.p3_air.specs.declared.error.TraceError.TheVariants.{NoRows, Width, PreprocessedHeight}
use Rattle.p3_air.specs.declared.error.TraceError.TheVariants.{PreprocessedWidth, PublicValues}
use Rattle.p3_air.specs.declared.error.TraceError.TheVariants.{PeriodicColumns}
use Rattle.p3_air.specs.declared.error.TraceError.TheVariants.{EmptyPeriodicColumn, Unsatisfied}
use Rattle.p3_air.specs.declared.error.TraceError.TheVariants.{OutOfMemory}
use Rattle.p3_air.specs.Nodes.{Entries}
use Rattle.p3_air.specs.Satisfied.{Assigned, HasShape, HaveRows, row_at}
use Rattle.p3_air.specs.Satisfied.{HoldsOn, FailsOn, node_values, HoldAtRow}

-- what a window shows
abbrev pub entries_of : {V E : Type 0} → Window V E → Entries V E
entries_of window = record {
  local = window.local.now;
  next = window.next.now;
  preprocessed = window.preprocessed.now;
  preprocessed_next = window.preprocessed_next.now;
  public_values = window.public_values.now;
  periodic = window.periodic.now;
}

-- there are as many entries of each kind as there are columns or values
pub record HasWidths {V E : Type 0} (layout : AirLayout) (entries : Entries V E) : Type 0 where
  pub local : length entries.local ≡ layout.width
  pub next : length entries.next ≡ layout.width
  pub preprocessed : length entries.preprocessed ≡ layout.preprocessed_width
  pub preprocessed_next : length entries.preprocessed_next ≡ layout.preprocessed_width
  pub public_values : length entries.public_values ≡ layout.num_public_values
  pub periodic : length entries.periodic ≡ layout.num_periodic_columns

-- what a constraint system is held against, as lists
abbrev pub assigned : {V : Type 0} → Assignment V → Assigned V
assigned given = record {
  trace = lists given.trace.now;
  preprocessed = lists given.preprocessed.now;
  public_values = given.public_values.now;
  periodic = lists given.periodic.now;
}

-- the first of the rows that hasn't `width` entries has this number, and so many
pub record IsFirstMisfit {V : Type 0} (width : ℕ) (rows : List (List V)) (place entries : ℕ)
    : Type 0 where
  pub within : place < length rows
  pub before : All (λ row. length row ≡ width) (take place rows)
  pub found : length (row_at rows place) ≡ entries
  pub other : entries ≢ width

-- the first of the columns that is empty has this number
pub record IsFirstEmpty {V : Type 0} (columns : List (List V)) (place : ℕ) : Type 0 where
  pub within : place < length columns
  pub before : All (λ column. 0 < length column) (take place columns)
  pub here : length (row_at columns place) ≡ 0

module _ {V : Type 0} (layout : AirLayout) where
  -- why rows are refused
  abbrev pub RowsFault : (trace preprocessed : List (List V)) → TraceError → Type 0
  RowsFault trace preprocessed NoRows = length trace ≡ 0
  RowsFault trace preprocessed (Width row entries width) =
      IsFirstMisfit layout.width trace row entries × (width ≡ layout.width)
  RowsFault trace preprocessed (PreprocessedHeight rows height) =
      (layout.preprocessed_width ≢ 0) × (rows ≢ height)
      × (rows ≡ length preprocessed) × (height ≡ length trace)
  RowsFault trace preprocessed (PreprocessedWidth row entries width) =
      IsFirstMisfit layout.preprocessed_width preprocessed row entries
      × (width ≡ layout.preprocessed_width)
  RowsFault trace preprocessed _ = ⊥

  -- why public values and periodic columns are refused
  abbrev pub CountsFault : (public_values : List V) (periodic : List (List V)) → TraceError
      → Type 0
  CountsFault public_values periodic (PublicValues found expected) =
      (found ≢ expected)
      × (found ≡ length public_values) × (expected ≡ layout.num_public_values)
  CountsFault public_values periodic (PeriodicColumns found expected) =
      (found ≢ expected)
      × (found ≡ length periodic) × (expected ≡ layout.num_periodic_columns)
  CountsFault public_values periodic (EmptyPeriodicColumn column) = IsFirstEmpty periodic column
  CountsFault public_values periodic _ = ⊥

  -- why the sizes of what is given are refused: rows come first
  abbrev pub ShapeFault : (given : Assigned V) → TraceError → Type 0
  ShapeFault given fault = RowsFault given.trace given.preprocessed fault
      ⊎ (HaveRows layout given.trace given.preprocessed
      × CountsFault given.public_values given.periodic fault)

module _ {V : Type 0} (K : FieldOps V) (height i : ℕ) (values : List V) where
  -- constraint number `at` is the first that fails
  pub record IsFirstFailing (constraints : List Constraint) (at : ℕ) : Type 0 where
    pub within : at < length constraints
    pub before : All (HoldsOn K height i values) (take at constraints)
    pub here : HoldsAt (FailsOn K height i values) constraints at

module _ {V : Type 0} (K : FieldOps V) (air : Air V) (given : Assigned V) where
  -- constraint number `at` is the first that fails at row `i`
  abbrev pub IsFirstUnsatisfied : (i at : ℕ) → Type 0
  IsFirstUnsatisfied i at =
      IsFirstFailing K (length given.trace) i (node_values K air given i) air.constraints.items at

  -- why a row is refused
  abbrev pub RowFault : (i : ℕ) → TraceError → Type 0
  RowFault i (Unsatisfied row constraint) = (row ≡ i) × IsFirstUnsatisfied i constraint
  RowFault i OutOfMemory = ⊤
  RowFault i _ = ⊥

  -- row `i` is the first on which a constraint fails, and there that is the first
  pub record IsFirstFailure (i at : ℕ) : Type 0 where
    pub shape : HasShape air.layout given
    pub row_there : i < length given.trace
    pub rows_before : (j : ℕ) → j < i → HoldAtRow K air given j
    pub constraint_there : IsFirstUnsatisfied i at

  -- why a trace is refused: memory is asked for only where the sizes fit
  abbrev pub TraceFault : TraceError → Type 0
  TraceFault (Unsatisfied row constraint) = IsFirstFailure row constraint
  TraceFault OutOfMemory = HasShape air.layout given
  TraceFault fault = ShapeFault air.layout given fault
