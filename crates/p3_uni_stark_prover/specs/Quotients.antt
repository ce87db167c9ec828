-- What a quotient is made of.
use Rattle.std.specs.Prelude.{◌≡◌, ◌≢◌, ◌<◌, ℕ, ◌+◌, ◌^◌, true, List, length, map, All, Option}
use Rattle.std.specs.Option.{is_some}
use Rattle.algebra.specs.Polynomial.{tabulate}
use Rattle.p3_matrix.specs.declared.dense.RowMajorMatrix.{RowMajorMatrix}
use Rattle.p3_matrix.specs.Matrix.{rows}
use Rattle.p3_air.specs.WellFormed.{IsWellFormed}
use Rattle.p3_periodic.specs.Views.{rows_if_any}
use Rattle.p3_pcs.specs.Scheme.{Scheme}
use Rattle.p3_stark_pcs.specs.Scheme.{StarkScheme}
use Rattle.p3_uni_stark_quotient.specs.Chunked.{chunk_rows}
use Rattle.p3_uni_stark_quotient.specs.Given.{OnCoset}
use Rattle.p3_uni_stark_quotient.specs.Quotient.{quotient_on_coset}
use Rattle.p3_uni_stark_verifier.specs.declared.proof.Statement.{Statement}
use Rattle.p3_uni_stark_verifier.specs.Setting.{StarkFields}
use Rattle.p3_uni_stark_phases.specs.Evaluated.{CanBeRead, CanBeReadIfAny, AreRead, AreReadIfAny}
use Rattle.p3_uni_stark_opening.specs.Opened.{values_of, HoldsIfSome}
use Rattle.p3_uni_stark_pcs.specs.Rooms.{AreChunksOf}

-- The trace's datum and that of preprocessed columns may be read on the coset of `size` points,
-- and they and the rows of periodic columns are as wide as the statement's layout tells.
pub record FitReadings {E C V Dom Com D Opening Error ProverError : Type 0}
    (r : Scheme E C V Dom Com D Opening Error ProverError) (t : StarkScheme E V Dom D ProverError)
    (coset : Dom) (size : ℕ) (s : Statement V Com) (periodic : List (List V)) (trace : D)
    (preprocessed : Option D) : Type 0 where
  pub well_formed : IsWellFormed s.air.now
  pub points : r.domain_size coset ≡ size
  pub trace_readable : CanBeRead t coset trace
  pub trace_width : (z : E) → length (values_of r z trace) ≡ s.air.now.layout.width
  pub preprocessed_readable : CanBeReadIfAny t coset preprocessed
  pub preprocessed_width : HoldsIfSome (λ d. (z : E)
      → length (values_of r z d) ≡ s.air.now.layout.preprocessed_width) preprocessed
  pub preprocessed_there : s.air.now.layout.preprocessed_width ≢ 0
      → is_some preprocessed ≡ true
  pub periodic_there : s.air.now.layout.num_periodic_columns ≢ 0 → 0 < length periodic
  pub periodic_width : All (λ row. length row ≡ s.air.now.layout.num_periodic_columns) periodic
  pub public_count : length s.public_values.now ≡ s.air.now.layout.num_public_values

-- columns by their values on a coset
abbrev pub given_on : {V Com : Type 0} → Statement V Com → (trace : RowMajorMatrix V)
    → (preprocessed : Option (RowMajorMatrix V)) → (periodic : List (List V)) → OnCoset V
given_on s trace preprocessed periodic = record {
  trace = rows trace;
  preprocessed = rows_if_any preprocessed;
  periodic = periodic;
  public_values = s.public_values.now;
}

-- chunks, each on its own domain, of the values on a coset of the quotient of the constraints' sum
-- by powers of `alpha`, where the columns of these data are read on that coset
pub record IsQuotientOn {E C V Dom Com D Opening Error ProverError : Type 0}
    (fields : StarkFields V E) (coefficients : E → List V) (shift : Dom → V) (log_size : Dom → ℕ)
    (r : Scheme E C V Dom Com D Opening Error ProverError) (embed : V → E) (point : Dom → ℕ → V)
    (coset : Dom) (s : Statement V Com) (periodic : List (List V)) (trace : D)
    (preprocessed : Option D) (k d : ℕ) (alpha : E) (chunks : List (Dom × RowMajorMatrix V))
    : Type 0 where
  pub trace_rows : RowMajorMatrix V
  pub trace_read : AreRead r embed point coset trace trace_rows
  pub preprocessed_rows : Option (RowMajorMatrix V)
  pub preprocessed_read : AreReadIfAny r embed point coset preprocessed preprocessed_rows
  pub pairs : AreChunksOf fields shift log_size k d chunks
  pub rows_are : map (λ e. rows e.1) chunks ≡ tabulate (2 ^ d)
      (chunk_rows coefficients fields.ext.zero k d (quotient_on_coset fields.base fields.ext
      fields.lift s.air.now (fields.root k) (2 ^ k) alpha
      (given_on s trace_rows preprocessed_rows periodic) (fields.root (k + d)) fields.generator
      (2 ^ d) (k + d)))
