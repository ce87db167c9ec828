-- What constraints see at a row of what has the shape.
use Rattle.std.proofs.Common.{◌≡◌, ◌≢◌, ℕ, zero, suc, ◌<◌, ◌≤◌, ◌+◌, ◌%◌, List, [], ◌∷◌, length, get_or, All, arith}
use Rattle.std.proofs.Common.{refl, sym, ap, subst, ◌∙◌}
use Rattle.std.proofs.lemmas.List.{length-map}
use Rattle.std.proofs.lemmas.List.Elements.{All-tail}
use Rattle.algebra.specs.Field.{FieldOps}
use Rattle.algebra.specs.Nested.{lists}
use Rattle.algebra.proofs.Nested.{length-lists}
use Rattle.p3_air.specs.declared.air.Air.{Air}
use Rattle.p3_air.specs.declared.air.AirLayout.{AirLayout}
use Rattle.p3_air.specs.declared.air.Constraint.{Constraint}
use Rattle.p3_air.specs.declared.assignment.Assignment.{Assignment}
use Rattle.p3_air.specs.declared.error.TraceError.{TraceError}
use Rattle.p3_air.specs.declared.error.TraceError.TheVariants.{NoRows, Width, PreprocessedHeight}
use Rattle.p3_air.specs.declared.error.TraceError.TheVariants.{PreprocessedWidth, PublicValues}
use Rattle.p3_air.specs.declared.error.TraceError.TheVariants.{PeriodicColumns}
use Rattle.p3_air.specs.declared.error.TraceError.TheVariants.{EmptyPeriodicColumn, Unsatisfied}
use Rattle.p3_air.specs.declared.error.TraceError.TheVariants.{OutOfMemory}
use Rattle.p3_air.specs.Satisfied.{Assigned, HasShape, HoldsOn, HoldAtRow, IsSatisfied, node_values}
use Rattle.p3_air.specs.Satisfied.{row_at, entries_at, periodic_at}
use Rattle.p3_air.specs.Shapes.{assigned, HasWidths, RowFault, IsFirstFailure, TraceFault}
use Rattle.p3_air.specs.Shapes.{IsFirstFailing, IsFirstUnsatisfied}

-- rows of `width` entries, of which those that matter are there
row_width : {V : Type 0} (rows : List (List V)) (width i : ℕ)
    → All (λ row. length row ≡ width) rows → (width ≢ 0 → i < length rows)
    → length (row_at rows i) ≡ width
row_width [] zero i all there = refl
row_width [] (suc width) i all there =
    let some : suc width ≢ 0 = λ e. omega (arith, e) in
    absurd (omega (arith, there some))
row_width (row ∷ rows) width zero all there = all 0 [] (omega arith)
row_width (row ∷ rows) width (suc i) all there =
    row_width rows width i (All-tail (λ r. length r ≡ width) row rows all)
    (λ some. omega (arith, there some))

-- at a row of what has the shape there are as many entries as the layout tells
pub entries_widths : {V : Type 0} (K : FieldOps V) (layout : AirLayout) (given : Assigned V)
    → HasShape layout given → (i : ℕ) → i < length given.trace
    → HasWidths layout (entries_at K given i)
entries_widths K layout given shape i there =
    let after : ℕ = (i + 1) % length given.trace in
    let next_there : after < length given.trace = omega (arith, there) in
    let tall : layout.preprocessed_width ≢ 0 → length given.preprocessed ≡ length given.trace =
    shape.rows.height in
    record {
      local = row_width given.trace layout.width i shape.rows.widths (λ some. there);
      next = row_width given.trace layout.width after shape.rows.widths (λ some. next_there);
      preprocessed = row_width given.preprocessed layout.preprocessed_width i
          shape.rows.preprocessed_widths (λ some. omega (arith, there, tall some));
      preprocessed_next = row_width given.preprocessed layout.preprocessed_width after
          shape.rows.preprocessed_widths (λ some. omega (arith, next_there, tall some));
      public_values = shape.counts.values;
      periodic = length-map given.periodic _ ∙ shape.counts.columns;
    }

-- what is read kind by kind at a row is what constraints see there
pub entries_read : {V : Type 0} (K : FieldOps V) (given : Assignment V) (i : ℕ)
    → {local next preprocessed preprocessed_next periodic : List V}
    → local ≡ row_at (lists given.trace.now) i
    → next ≡ row_at (lists given.trace.now) ((i + 1) % length given.trace.now)
    → preprocessed ≡ row_at (lists given.preprocessed.now) i
    → preprocessed_next
    ≡ row_at (lists given.preprocessed.now) ((i + 1) % length given.trace.now)
    → periodic ≡ periodic_at K (lists given.periodic.now) i
    → record {
      local = local;
      next = next;
      preprocessed = preprocessed;
      preprocessed_next = preprocessed_next;
      public_values = given.public_values.now;
      periodic = periodic;
    } ≡ entries_at K (assigned given) i
entries_read K given i here after fixed fixed_after values =
    let trace = given.trace.now in
    let at_next : (rows : List (List _)) → row_at rows ((i + 1) % length trace)
    ≡ row_at rows ((i + 1) % length (lists trace)) =
    λ rows. ap (λ n. row_at rows ((i + 1) % n)) (sym (length-lists trace)) in
    λ j. record {
      local = here j;
      next = (after ∙ at_next (lists trace)) j;
      preprocessed = fixed j;
      preprocessed_next = (fixed_after ∙ at_next (lists given.preprocessed.now)) j;
      public_values = given.public_values.now;
      periodic = values j;
    }

module _ {V : Type 0} (K : FieldOps V) (air : Air V) (given : Assigned V) where
  -- why a row is refused is why the trace is, where all rows before hold
  pub fault_of_row : HasShape air.layout given → (i : ℕ) → i < length given.trace
      → ((j : ℕ) → j < i → HoldAtRow K air given j) → (fault : TraceError)
      → RowFault K air given i fault → TraceFault K air given fault
  fault_of_row shape i l before (Unsatisfied row constraint) h =
      subst (λ n. IsFirstFailure K air given n constraint) (sym h.0)
      (record { shape = shape; row_there = l; rows_before = before; constraint_there = h.1 })
  fault_of_row shape i l before OutOfMemory h = shape
  fault_of_row shape i l before NoRows h = absurd h
  fault_of_row shape i l before (Width row entries width) h = absurd h
  fault_of_row shape i l before (PreprocessedHeight rows height) h = absurd h
  fault_of_row shape i l before (PreprocessedWidth row entries width) h = absurd h
  fault_of_row shape i l before (PublicValues found expected) h = absurd h
  fault_of_row shape i l before (PeriodicColumns found expected) h = absurd h
  fault_of_row shape i l before (EmptyPeriodicColumn column) h = absurd h

  -- what holds by the nodes' values is what holds at the row
  pub row_holds : (i height : ℕ) (values : List V) (constraints : List Constraint)
      → height ≡ length given.trace → values ≡ node_values K air given i
      → constraints ≡ air.constraints.items → All (HoldsOn K height i values) constraints
      → HoldAtRow K air given i
  row_holds i height values constraints tall is same all k d l =
      subst (λ vs. HoldsOn K (length given.trace) i vs (get_or air.constraints.items k d)) is
      (subst (λ n. HoldsOn K n i values (get_or air.constraints.items k d)) tall
      (subst (λ cs. HoldsOn K height i values (get_or cs k d)) same
      (all k d (subst (λ cs. k < length cs) (sym same) l))))

  -- what fails by the nodes' values is what fails at the row
  pub row_fails : (i height : ℕ) (values : List V) (constraints : List Constraint) (at : ℕ)
      → height ≡ length given.trace → values ≡ node_values K air given i
      → constraints ≡ air.constraints.items → IsFirstFailing K height i values constraints at
      → IsFirstUnsatisfied K air given i at
  row_fails i height values constraints at tall is same failing =
      subst (λ vs. IsFirstFailing K (length given.trace) i vs air.constraints.items at) is
      (subst (λ n. IsFirstFailing K n i values air.constraints.items at) tall
      (subst (λ cs. IsFirstFailing K height i values cs at) same failing))

  -- all rows hold
  pub satisfied : HasShape air.layout given → (n : ℕ) → length given.trace ≤ n
      → ((j : ℕ) → j < n → HoldAtRow K air given j) → IsSatisfied K air given
  satisfied shape n end all = record {
    shape = shape;
    rows_hold = λ i l. all i (omega (arith, l, end));
  }
