-- What a prover of the plain scheme keeps between its commitments and an opening.
use Rattle.std.specs.Prelude.{◌≡◌, ◌≢◌, ℕ, List, [], All, map, false}
use Rattle.std.specs.List.{AllZip, flat_map}
use Rattle.std.specs.Vec.{with_items}
use Rattle.p3_challenger_sha256.specs.Sha256.{start}
use Rattle.p3_fri_folding.specs.declared.error.FriProverError.{FriProverError}
use Rattle.p3_mmcs.specs.ProverData.{root_over}
use Rattle.p3_pcs.specs.Claims.{zip_with}
use Rattle.fri_records.specs.declared.records.Matrix.{Matrix}
use Rattle.fri_records.specs.declared.records.Batch.{Batch}
use Rattle.fri_records.specs.declared.records.Parameters.{Parameters}
use Rattle.fri_records.specs.Records.{AreProvers, parameters_in}
use Rattle.fri_statement.specs.Setting.{SchemeFields}
use Rattle.fri_commitments.specs.declared.committed.Committed.{Committed}
use Rattle.fri_verification.specs.Bound.{IsContext, batch_asked, bound, context_listed}
use Rattle.fri_numbers.specs.Listed.{domain_of}
use Rattle.fri_opening.specs.Openings.{requests_for}
use Rattle.fri_requests.specs.PlainRequests.{InputData, KeepsBatch}
use Rattle.fri_numbers.specs.Shapes.{IsMatrix, HasPoints}
use Rattle.fri_commitments.specs.Requests.{AllMatrices}
use Rattle.fri_requests.specs.PlainRequests.{Refuses}
use Rattle.fri_commitments.specs.Requests.{points_listed}

module _ {F E : Type 0} (f : SchemeFields F E) where
  -- a prover of these parameters commits to the batch
  pub record CommitsBatch (parameters : Parameters) (batch : Batch) : Type 0 where
    pub provers : AreProvers f.relation.two_adicity parameters
    pub matrices : All (IsMatrix f false parameters.log_blowup) batch.matrices.items

  -- over trees whose elements have so many bytes each, on domains with these shifts and log sizes
  module _ (input_length : ℕ) {Dom : Type 0} (shift_of : Dom → F) (log_size_of : Dom → ℕ) where
    -- what is kept under a commitment to a batch: the tree of that root, over what the plain scheme
    -- keeps of the batch, and the domains of the batch
    pub record IsKept (log_blowup : ℕ) (c : Committed (InputData f input_length) Dom)
        (batch : Batch) : Type 0 where
      pub root : c.commitment ≡ root_over c.data
      pub keeps : KeepsBatch f input_length log_blowup c.data batch
      pub domains : map (λ d. domain_of f (shift_of d) (log_size_of d)) c.domains.items
          ≡ map (λ m. m.domain) batch.matrices.items

    -- a prover of these parameters has committed to batches, in this order, and keeps what opens
    -- them
    pub record HasCommitted (parameters : Parameters)
        (all : List (Committed (InputData f input_length) Dom)) (batches : List Batch)
        : Type 0 where
      pub provers : AreProvers f.relation.two_adicity parameters
      pub kept : AllZip (IsKept parameters.log_blowup) all batches

-- a matrix that was committed to, at the points of a record that asks for it
abbrev pub matrix_at : (kept asked : Matrix) → Matrix
matrix_at kept asked = record kept { points = asked.points }

-- the matrices of a batch, each at the points that are asked of it
abbrev pub batch_at : (kept asked : Batch) → Batch
batch_at kept asked = record kept {
  matrices = with_items kept.matrices
      (zip_with matrix_at kept.matrices.items asked.matrices.items);
}

-- batches that were committed to, at the points of the records that ask for them
abbrev pub batches_at : (kept asked : List Batch) → List Batch
batches_at kept asked = zip_with batch_at kept asked

-- records ask for the matrices of these batches: batch by batch, they name the same domains and
-- the same widths
pub record AskFor (batches asked : List Batch) : Type 0 where
  pub domains : map (λ b. map (λ m. m.domain) b.matrices.items) batches
      ≡ map (λ b. map (λ m. m.domain) b.matrices.items) asked
  pub widths : map (λ b. map (λ m. m.width) b.matrices.items) batches
      ≡ map (λ b. map (λ m. m.width) b.matrices.items) asked

module _ {F E : Type 0} (f : SchemeFields F E) where
  -- what is asked of a prover that has committed to batches can be opened: the context is bytes,
  -- the records ask for the matrices of the batches, at some points each, and there is some matrix
  pub record CanAsk (batches : List Batch) (context : List ℕ) (asked : List Batch) : Type 0 where
    pub bytes : IsContext context
    pub named : AskFor batches asked
    pub points : AllMatrices (HasPoints f) asked
    pub some_matrix : flat_map (λ b. b.matrices.items) asked ≢ []

  -- the plain scheme refuses to open what is kept at these points for this reason, other than for
  -- want of memory, from the state that is bound to what is asked
  module _ (input_length round_length : ℕ) {Dom : Type 0} where
    pub record RefusesAsked (parameters : Parameters)
        (all : List (Committed (InputData f input_length) Dom)) (context : List ℕ)
        (asked : List Batch) (e : FriProverError) : Type 0 where
      pub refused : Refuses f input_length round_length (parameters_in parameters)
          (bound f start (context_listed context) (parameters_in parameters)
          (zip_with (batch_asked false) (map (λ c. c.commitment) all) asked))
          (requests_for all (points_listed f asked)) e
