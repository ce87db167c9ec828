-- Why any scheme that is made of parameters refuses to commit to a request.
use Rattle.std.specs.Prelude.{◌≡◌, ℕ, Bool, List, ◌∷◌, ◌++◌}
use Rattle.p3_challenger_sha256.specs.declared.sha256_challenger.Sha256Challenger.{Sha256Challenger}
use Rattle.p3_matrix.specs.declared.dense.RowMajorMatrix.{RowMajorMatrix}
use Rattle.p3_pcs.specs.Scheme.{Scheme}
use Rattle.p3_stark_pcs.specs.Scheme.{StarkScheme}
use Rattle.fri_records.specs.declared.records.Batch.{Batch}
use Rattle.fri_records.specs.declared.records.Request.{Request}
use Rattle.fri_statement.specs.Setting.{SchemeFields}
use Rattle.fri_commitments.specs.declared.reading.ListedBatch.{ListedBatch}
use Rattle.fri_numbers.specs.Listed.{AreListed}
use Rattle.fri_commitments.specs.Committed.{RefusesMatrices}
use Rattle.fri_commitments.specs.Requests.{CanCommit}

module _ {P E C V Dom D Proof Error ProverError : Type 0}
    (rules : P → Scheme E C V Dom (List ℕ) D Proof Error ProverError)
    (stark_rules : P → StarkScheme E V Dom D ProverError)
    (IsMemory : ProverError → Type 0) (IsScheme : P → Type 0) where
  -- the scheme refuses to commit to one of these batches for this reason, other than for want of
  -- memory
  pub record RefusesRead (all : List (ListedBatch V Dom)) (e : ProverError) : Type 0 where
    pub scheme : P
    pub is_of : IsScheme scheme
    pub before : List (ListedBatch V Dom)
    pub read : ListedBatch V Dom
    pub after : List (ListedBatch V Dom)
    pub among : all ≡ before ++ read ∷ after
    pub refused : RefusesMatrices (rules scheme) (stark_rules scheme) read.preprocessed
        read.evaluations.items e
    pub not_memory : ¬ IsMemory e

module _ {F E : Type 0} (f : SchemeFields F E) {P C Dom D Proof Error ProverError : Type 0}
    (rules : P → Scheme E C F Dom (List ℕ) D Proof Error ProverError)
    (stark_rules : P → StarkScheme E F Dom D ProverError)
    (IsMemory : ProverError → Type 0) (IsScheme : P → Type 0) (hides : Bool)
    (shift_of : Dom → F) (log_size_of : Dom → ℕ) where
  -- and so of a request's batches
  pub record RefusesBatch (batches : List Batch) (e : ProverError) : Type 0 where
    pub scheme : P
    pub is_of : IsScheme scheme
    pub before : List Batch
    pub batch : Batch
    pub after : List Batch
    pub among : batches ≡ before ++ batch ∷ after
    pub evaluations : List (Dom × RowMajorMatrix F)
    pub listed : AreListed f hides shift_of log_size_of evaluations batch
    pub refused : RefusesMatrices (rules scheme) (stark_rules scheme) batch.preprocessed
        evaluations e
    pub not_memory : ¬ IsMemory e

module _ {F E : Type 0} (f : SchemeFields F E) {P Dom D Proof Error ProverError : Type 0}
    (rules : P → Scheme E (Sha256Challenger F) F Dom (List ℕ) D Proof Error ProverError)
    (stark_rules : P → StarkScheme E F Dom D ProverError)
    (IsMemory : ProverError → Type 0) (IsScheme : P → Type 0) (hides : Bool)
    (shift_of : Dom → F) (log_size_of : Dom → ℕ) where
  -- a request that can be committed to, and isn't
  pub record IsUncommitted (request : Request) (e : ProverError) : Type 0 where
    pub request_commits : CanCommit f hides request
    pub refused : RefusesBatch f rules stark_rules IsMemory IsScheme hides shift_of log_size_of
        request.commitments.items e
