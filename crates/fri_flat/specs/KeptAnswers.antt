-- Bytes that answer others of a prover that keeps what it committed to, in the flat form.
use Rattle.std.specs.Prelude.{◌≡◌, ℕ, List, [], ◌∷◌, ◌++◌, Ok, map}
use Rattle.std.specs.List.{AllZip}
use Rattle.fri_records.specs.declared.records.Parameters.{Parameters}
use Rattle.fri_records.specs.declared.records.Batch.{Batch}
use Rattle.fri_statement.specs.Setting.{SchemeFields}
use Rattle.fri_commitments.specs.declared.committed.Committed.{Committed}
use Rattle.fri_numbers.specs.Claims.{batch_listed}
use Rattle.fri_requests.specs.Commitments.{IsCommitmentTo}
use Rattle.fri_prover.specs.Keeping.{HasCommitted, AskFor, batches_at}
use Rattle.fri_requests.specs.Opened.{IsOpened}
use Rattle.fri_requests.specs.PlainRequests.{InputData}
use Rattle.fri_flat.specs.declared.kept.Asked.{Asked}
use Rattle.fri_flat.specs.declared.statement.Statement.{Statement}
use Rattle.fri_flat.specs.Answers.{IsAcceptedStatement}
use Rattle.fri_flat.specs.Asked.{asked, IsAsked}
use Rattle.fri_flat.specs.Flat.{parameters, batch, IsBatch, answer}
use Rattle.fri_flat.specs.Layouts.{layout_of}

-- over fields, of a prover of such parameters that keeps what is under these commitments
module _ {F E : Type 0} (f : SchemeFields F E) (input_length : ℕ) {Dom : Type 0}
    (shift_of : Dom → F) (log_size_of : Dom → ℕ) (kept_parameters : Parameters) where
  -- what is kept, commitment by commitment
  abbrev Kept : Type 0
  Kept = List (Committed (InputData f input_length) Dom)

  -- bytes are the parameters, and nothing is committed to
  pub record BeginsProver (bytes : List ℕ) (all : Kept) : Type 0 where
    pub is_asked : bytes ≡ parameters kept_parameters
    pub committed : HasCommitted f input_length shift_of log_size_of kept_parameters all []

  -- bytes are a batch, and others the commitment to it, which is kept after those before
  pub record CommitsKept (old new : Kept) (bytes commitment : List ℕ) : Type 0 where
    pub listed : Batch
    pub is_asked : bytes ≡ batch (layout_of f) listed
    pub is_whole : IsBatch (layout_of f) listed
    pub committed : IsCommitmentTo f kept_parameters.log_blowup commitment listed
    pub kept : (batches : List Batch)
        → HasCommitted f input_length shift_of log_size_of kept_parameters old batches
        → HasCommitted f input_length shift_of log_size_of kept_parameters new
        (batches ++ listed ∷ [])
    pub commitments : map (λ c. c.commitment) new
        ≡ map (λ c. c.commitment) old ++ commitment ∷ []

  -- a statement opens batches that were committed to, as a request asks for them: its claims are
  -- the values of their columns' polynomials at the points that are asked, under the commitments
  -- that are kept, and it is accepted
  pub record OpensKept (all : Kept) (batches : List Batch) (request : Asked)
      (answered : Statement) (next_challenge : List ℕ) : Type 0 where
    pub asks : AskFor batches request.batches.items
    pub opened : AllZip (IsOpened f kept_parameters.log_blowup)
        (map batch_listed answered.claims.items) (batches_at batches request.batches.items)
    pub commitments : map (λ b. b.commitment) (map batch_listed answered.claims.items)
        ≡ map (λ k. Ok k) (map (λ c. c.commitment) all)
    pub accepted : IsAcceptedStatement f answered next_challenge

  -- bytes ask for what is kept, and others are an answer: the next challenge, and a statement of
  -- that context and of the prover's parameters. It opens the batches that were committed to,
  -- whatever these are
  pub record AnswersAsked (all : Kept) (bytes out : List ℕ) : Type 0 where
    pub request : Asked
    pub answered : Statement
    pub next_challenge : List ℕ
    pub is_asked : bytes ≡ asked (layout_of f) request
    pub is_whole : IsAsked (layout_of f) request
    pub context : answered.context ≡ request.context
    pub same : answered.parameters ≡ kept_parameters
    pub opens : (batches : List Batch)
        → HasCommitted f input_length shift_of log_size_of kept_parameters all batches
        → OpensKept all batches request answered next_challenge
    pub is_answer : out ≡ answer (layout_of f) next_challenge answered
