-- What is opened of committed columns agrees with the quotient, where the trace satisfies its
-- constraints.
use Rattle.std.proofs.Common.{◌≡◌, ℕ, zero, suc, ◌%◌, ◌^◌, ◌<◌, ◌≤◌, List, [], ◌∷◌, length, map}
use Rattle.std.proofs.Common.{All, refl, ap, ◌∙◌, arith, pow_pos}
use Rattle.std.specs.List.{AllZip}
use Rattle.std.specs.declared.vec.Vec.{Vec}
use Rattle.algebra.specs.Field.{IsField, IsHomomorphism, pow}
use Rattle.algebra.specs.Nested.{lists}
use Rattle.algebra.specs.Polynomial.{val}
use Rattle.algebra.specs.Quotients.{values_at}
use Rattle.algebra.specs.TwoAdic.{AreRoots}
use Rattle.algebra.proofs.Lists.{Each, each_from_All, All_from_each}
use Rattle.p3_air.specs.Satisfied.{Assigned, row_at, periodic_at}
use Rattle.p3_air_laws.specs.Columns.{Columns, AreColumnsOf}
use Rattle.p3_periodic.specs.Columns.{HasPeriod}
use Rattle.p3_periodic.specs.Values.{IsColumnValue}
use Rattle.p3_uni_stark_completeness.proofs.Columns.{functions, functions_degrees, functions_rows}
use Rattle.p3_uni_stark_completeness.proofs.Columns.{functions_on}
use Rattle.p3_uni_stark_quotient.specs.Given.{OnCoset}
use Rattle.p3_uni_stark_quotient.specs.Laws.{AreEvaluations}
use Rattle.p3_uni_stark_verifier.specs.Setting.{StarkFields}

-- no more columns than the rows have entries
pub no_entries : {V : Type 0} (given : List (List V)) (i : ℕ) → All (λ row. length row ≡ 0) given
    → row_at given i ≡ []
no_entries [] i h = refl
no_entries (row ∷ given) zero h = empty row (h 0 row (omega arith))
  where
    empty : {V : Type 0} (row : List V) → length row ≡ 0 → row ≡ []
    empty [] e = refl
    empty (x ∷ xs) e = absurd (omega (arith, e))
no_entries (row ∷ given) (suc i) h =
    no_entries given i (λ j d l. h (suc j) d (omega (arith, l)))

module _ {V E : Type 0} (fields : StarkFields V E) (L : IsField fields.base)
    (M : IsField fields.ext) (H : IsHomomorphism fields.base fields.ext fields.lift)
    (W : AreRoots fields.base fields.two_adicity fields.root) (few : fields.two_adicity < 64)
    (k l : ℕ) (t : k ≤ fields.two_adicity) (whole : 2 ^ k ≤ l)
    {A : Type 0} (periodic : List (Vec V A)) (periods : All (HasPeriod (2 ^ k)) periodic) where
  abbrev each_period : Each (HasPeriod (2 ^ k)) periodic
  each_period = each_from_All (HasPeriod (2 ^ k)) periodic periods

  -- all columns as polynomials and functions
  abbrev pub columns_with : (trace preprocessed : List (List V)) → Columns V E
  columns_with trace preprocessed = record {
    trace = trace;
    preprocessed = preprocessed;
    periodic = functions fields.base L fields.ext M fields.lift H fields.two_adicity fields.root W
        k t few periodic;
  }

  at_most : (columns : List (List V)) → All (λ c. length c ≡ l) columns
      → All (λ c. length c ≤ l) columns
  at_most columns h = λ i d b. omega (arith, h i d b)

  -- they are the columns of what is given, where the polynomials have its rows
  pub are_columns : (given : Assigned V) (trace preprocessed : List (List V))
      → All (λ c. length c ≡ l) trace → All (λ c. length c ≡ l) preprocessed
      → length given.trace ≡ 2 ^ k → given.periodic ≡ lists periodic
      → ((i : ℕ) → i < 2 ^ k → row_at given.trace i
      ≡ map (λ c. val fields.base c (pow fields.base (fields.root k) i)) trace)
      → ((i : ℕ) → i < 2 ^ k → row_at given.preprocessed i
      ≡ map (λ c. val fields.base c (pow fields.base (fields.root k) i)) preprocessed)
      → AreColumnsOf fields.base fields.ext fields.lift (fields.root k) (2 ^ k) l given
      (columns_with trace preprocessed)
  are_columns given trace preprocessed degrees preprocessed_degrees height same rows_are
      preprocessed_rows = record {
        some_coefficient = omega (arith, whole, pow_pos k);
        trace_degrees = at_most trace degrees;
        preprocessed_degrees = at_most preprocessed preprocessed_degrees;
        periodic_degrees = All_from_each _ _ (functions_degrees fields.base L fields.ext M fields.lift
            H fields.two_adicity fields.root W k t few l whole periodic each_period);
        height = height;
        trace = rows_are;
        preprocessed = preprocessed_rows;
        periodic = λ i b.
            ap (λ cs. map fields.lift (periodic_at fields.base cs i)) same
            ∙ functions_rows fields.base L fields.ext M fields.lift H fields.two_adicity fields.root W
            k t few i periodic each_period;
      }

  -- what is read on a coset are their values there
  pub are_evaluations : (point : ℕ → V) (size : ℕ) (on : OnCoset V)
      (trace preprocessed : List (List V)) → length on.trace ≡ size
      → ((i : ℕ) → i < size → map fields.lift (row_at on.trace i)
      ≡ values_at fields.base fields.ext fields.lift trace (fields.lift (point i)))
      → ((i : ℕ) → i < size → map fields.lift (row_at on.preprocessed i)
      ≡ values_at fields.base fields.ext fields.lift preprocessed (fields.lift (point i)))
      → ((i : ℕ) → AllZip (IsColumnValue fields.base fields.root k (point i)) periodic
      (row_at on.periodic (i % length on.periodic)))
      → AreEvaluations fields.base fields.ext fields.lift point size
      (columns_with trace preprocessed) on
  are_evaluations point size on trace preprocessed height there preprocessed_there
      periodic_there = record {
        height = height;
        trace = there;
        preprocessed = preprocessed_there;
        periodic = λ i b. functions_on fields.base L fields.ext M fields.lift H fields.two_adicity
            fields.root W k t few (point i) periodic (row_at on.periodic (i % length on.periodic))
            each_period (periodic_there i);
      }
