-- Why there is no proof.
use Rattle.std.specs.Prelude.{◌≡◌, ◌≢◌, ◌⊎◌, ◌<◌, ⊤, ℕ, ◌+◌, ◌^◌, Bool, List, [], ◌∷◌, All, Option}
use Rattle.algebra.specs.Field.{pow}
use Rattle.p3_air.specs.Degrees.{node_degrees}
use Rattle.p3_challenger_core.specs.Run.{Moves}
use Rattle.p3_matrix.specs.declared.dense.RowMajorMatrix.{RowMajorMatrix}
use Rattle.p3_periodic.specs.Columns.{FirstFault}
use Rattle.p3_pcs.specs.Requests.{Held}
use Rattle.p3_pcs.specs.Scheme.{Scheme}
use Rattle.p3_stark_pcs.specs.Scheme.{StarkScheme}
use Rattle.p3_uni_stark_verifier.specs.declared.proof.Commitments.{Commitments}
use Rattle.p3_uni_stark_verifier.specs.declared.proof.Statement.{Statement}
use Rattle.p3_uni_stark_verifier.specs.Chunks.{hiding_bits}
use Rattle.p3_uni_stark_verifier.specs.Setting.{StarkFields}
use Rattle.p3_uni_stark_phases.specs.declared.error.ProvingError.{ProvingError}
use Rattle.p3_uni_stark_phases.specs.declared.error.ProvingError.TheVariants as refusal
use Rattle.p3_uni_stark_pcs.specs.Rooms.{AreChunksOf}
use Rattle.p3_uni_stark_opening.specs.declared.opening.ColumnData.{ColumnData}
use Rattle.p3_uni_stark_prover.specs.declared.preparation.Preparation.{Preparation}
use Rattle.p3_uni_stark_prover.specs.Committed.{AreCommitted}
use Rattle.p3_uni_stark_prover.specs.Finished.{FinishRefusal}

-- before anything is committed to: a degree is too large, the field's generator doesn't lead off
-- subgroups, or a periodic column doesn't repeat along `2^k` rows
abbrev pub PreparationRefusal : {V E Com ProverError : Type 0} → StarkFields V E → Statement V Com
    → (k : ℕ) → ProvingError ProverError → Type 0
PreparationRefusal fields s k refusal.DegreeTooLarge =
    ¬ All (λ d. d < 2 ^ 63) (node_degrees s.air.now)
PreparationRefusal fields s k refusal.InvalidGenerator =
    ¬ (pow fields.base fields.generator (2 ^ fields.two_adicity) ≢ fields.base.one)
PreparationRefusal fields s k (refusal.InvalidPeriodicColumns f) =
    FirstFault (2 ^ k) s.periodic.now f
PreparationRefusal fields s k refusal.OutOfMemory = ⊤
PreparationRefusal fields s k _ = ⊥

module _ {E C V Dom Com D Opening Error ProverError : Type 0} (fields : StarkFields V E)
    (shift : Dom → V) (log_size : Dom → ℕ) (zk : Bool)
    (r : Scheme E C V Dom Com D Opening Error ProverError)
    (t : StarkScheme E V Dom D ProverError) (EvaluationRefuses : ProverError → Type 0) where
  -- the subgroup on which the columns of `2^k` rows are committed to
  abbrev pub IsColumnDomain : (k : ℕ) → Dom → Type 0
  IsColumnDomain k domain =
      (shift domain ≡ fields.base.one) × (log_size domain ≡ k + hiding_bits zk)

  -- while columns are committed to: the scheme refuses the trace, the values of committed columns,
  -- chunks or the words that they are extended to, or random polynomials, for a reason of its own
  abbrev pub CommitRefusal : (k : ℕ) (trace : RowMajorMatrix V) → ProvingError ProverError → Type 0
  CommitRefusal k trace (refusal.Trace e) = (domain : Dom)
      × IsColumnDomain k domain × r.CommitRefuses ((domain, trace) ∷ []) e
  CommitRefusal k trace (refusal.Evaluation e) = EvaluationRefuses e
  CommitRefusal k trace (refusal.Quotient e) =
      ((d : ℕ) × (chunks : List (Dom × RowMajorMatrix V))
      × AreChunksOf fields shift log_size k d chunks × t.QuotientsRefuse chunks e)
      ⊎ ((ldes : List (RowMajorMatrix V)) × t.LdesRefuse ldes e)
  CommitRefusal k trace (refusal.Randomization e) = (domain : Dom)
      × IsColumnDomain k domain × t.RandomizationRefuses (domain ∷ []) e
  CommitRefusal k trace refusal.OutOfMemory = ⊤
  CommitRefusal k trace _ = ⊥

-- once commitments to a trace of `2^k` rows are made from the state `c`: the point that is drawn
-- lies in the trace's domain, or the scheme refuses the opening
pub record IsRefusedAfter {E C V Dom Com D Opening Error ProverError : Type 0}
    (fields : StarkFields V E) (coefficients : E → List V) (m : Moves C V E Com) (shift : Dom → V)
    (log_size : Dom → ℕ) (zk : Bool) (r : Scheme E C V Dom Com D Opening Error ProverError)
    (t : StarkScheme E V Dom D ProverError) (embed : V → E) (point : Dom → ℕ → V)
    (recombined : List Dom → List (List E) → E → List E)
    (chunk_polynomials : Dom × RowMajorMatrix V → Held E) (s : Statement V Com) (k : ℕ)
    (trace : RowMajorMatrix V) (preprocessed : Option D) (c : C) (e : ProvingError ProverError)
    : Type 0 where
  pub prepared : Preparation V Dom
  pub height : prepared.log_height ≡ k
  pub middle : C
  pub commitments : Commitments Com
  pub columns : ColumnData D
  pub committed : AreCommitted fields coefficients m shift log_size zk r t embed point recombined
      chunk_polynomials s prepared trace preprocessed c middle commitments columns
  pub refusal : FinishRefusal fields m r k commitments middle e
