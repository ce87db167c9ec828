-- What a scheme commits to of batches that records list.
use Rattle.std.specs.Prelude.{◌≡◌, ℕ, Bool, true, false, List, map, All}
use Rattle.std.specs.List.{AllZip}
use Rattle.p3_matrix.specs.declared.dense.RowMajorMatrix.{RowMajorMatrix}
use Rattle.p3_pcs.specs.Scheme.{Scheme}
use Rattle.p3_stark_pcs.specs.Scheme.{StarkScheme}
use Rattle.fri_records.specs.declared.records.Batch.{Batch}
use Rattle.fri_statement.specs.Setting.{SchemeFields}
use Rattle.fri_commitments.specs.declared.committed.Committed.{Committed}
use Rattle.fri_commitments.specs.declared.reading.ListedBatch.{ListedBatch}
use Rattle.fri_numbers.specs.Numbers.{element}
use Rattle.fri_numbers.specs.Listed.{domain_committed, domain_of, AreListed, AreListedBy}

-- by which element a number is of, and by the numbers of domains
module _ {V Dom : Type 0} (element_of : ℕ → V) (shift_of log_size_of : Dom → ℕ) (hides : Bool) where
  -- a batch, read of its record
  pub record ListsBy (read : ListedBatch V Dom) (batch : Batch) : Type 0 where
    pub evaluations : AreListedBy element_of shift_of log_size_of hides read.evaluations.items
        batch
    pub preprocessed : read.preprocessed ≡ batch.preprocessed

module _ {F E : Type 0} (f : SchemeFields F E) {Dom : Type 0} (hides : Bool) (shift_of : Dom → F)
    (log_size_of : Dom → ℕ) where
  -- the same over these fields
  abbrev pub Lists : ListedBatch F Dom → Batch → Type 0
  Lists read batch =
      ListsBy (element f) (λ d. f.canonical (shift_of d)) log_size_of hides read batch

-- the scheme may commit to each of these batches
pub record CommitsEach {E C V Dom Com D Proof Error ProverError : Type 0}
    (r : Scheme E C V Dom Com D Proof Error ProverError) (batches : List (ListedBatch V Dom))
    : Type 0 where
  pub each : All (λ b. r.CanCommit b.evaluations.items) batches

module _ {E C V Dom Com D Proof Error ProverError : Type 0}
    (r : Scheme E C V Dom Com D Proof Error ProverError) (t : StarkScheme E V Dom D ProverError)
  where
    -- a datum may be opened, as preprocessing or as it is
    abbrev pub MayOpen : (preprocessed : Bool) → D → Type 0
    MayOpen true d = t.CanOpenPreprocessed d
    MayOpen false d = r.CanOpen d

    -- these matrices are refused for this reason, as preprocessing or as they are
    abbrev pub RefusesMatrices : (preprocessed : Bool) → List (Dom × RowMajorMatrix V)
        → ProverError → Type 0
    RefusesMatrices true evaluations e = t.PreprocessingRefuses evaluations e
    RefusesMatrices false evaluations e = r.CommitRefuses evaluations e

    -- a commitment to matrices: that to an honest datum, which may be opened as they are, of
    -- polynomials that extend them
    pub record CommitsTo (commitment : Com) (datum : D) (preprocessed : Bool)
        (evaluations : List (Dom × RowMajorMatrix V)) : Type 0 where
      pub commits : r.commitment_of datum ≡ commitment
      pub honest : r.IsHonest datum
      pub openable : MayOpen preprocessed datum
      pub extends : AllZip r.Extends (r.committed_polynomials datum) evaluations

module _ {E C V Dom D Proof Error ProverError : Type 0}
    (r : Scheme E C V Dom (List ℕ) D Proof Error ProverError)
    (t : StarkScheme E V Dom D ProverError) where
  -- what is kept of a batch that was read: beside that, the matrices' domains
  pub record KeepsRead (c : Committed D Dom) (read : ListedBatch V Dom) : Type 0 where
    pub commits : CommitsTo r t c.commitment c.data read.preprocessed read.evaluations.items
    pub domains : c.domains.items ≡ map (λ e. e.0) read.evaluations.items

module _ {F E C Dom D Proof Error ProverError : Type 0} (f : SchemeFields F E)
    (r : Scheme E C F Dom (List ℕ) D Proof Error ProverError)
    (t : StarkScheme E F Dom D ProverError) (hides : Bool) (shift_of : Dom → F)
    (log_size_of : Dom → ℕ) where
  -- a commitment to a batch: to the matrices that it lists
  pub record IsCommittedTo (commitment : List ℕ) (datum : D) (batch : Batch) : Type 0 where
    pub evaluations : List (Dom × RowMajorMatrix F)
    pub listed : AreListed f hides shift_of log_size_of evaluations batch
    pub commits : CommitsTo r t commitment datum batch.preprocessed evaluations

  -- what is kept of a batch: beside that, the domains on which its matrices are committed to
  pub record Keeps (c : Committed D Dom) (batch : Batch) : Type 0 where
    pub committed : IsCommittedTo c.commitment c.data batch
    pub domains : map (λ d. domain_of f (shift_of d) (log_size_of d)) c.domains.items
        ≡ map (λ m. domain_committed hides m.domain) batch.matrices.items
    pub sizes : map r.domain_size c.domains.items
        ≡ map (λ m. m.size) (r.committed_polynomials c.data)
