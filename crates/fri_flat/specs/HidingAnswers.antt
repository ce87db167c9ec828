-- Bytes that answer others in the scheme that hides: what the scheme answers, in the flat form.
use Rattle.std.specs.Prelude.{◌≡◌, ℕ, List, true, Option, map, string_bytes}
use Rattle.p3_challenger_sha256.specs.declared.sha256_challenger.Sha256Challenger.{Sha256Challenger}
use Rattle.p3_challenger_sha256.specs.Sha256.{start}
use Rattle.p3_pcs.specs.Scheme.{Scheme}
use Rattle.p3_stark_pcs.specs.Scheme.{StarkScheme}
use Rattle.p3_fri_relation.specs.Setting as setting
use Rattle.p3_fri_plain.specs.Numbers.{HidingSeen, hiding_numbers}
use Rattle.p3_fri_plain.specs.Views.{hiding_listed}
use Rattle.fri_statement.specs.Hiding.{hiding_absorbed}
use Rattle.fri_statement.specs.Setting.{SchemeFields}
use Rattle.fri_records.specs.declared.records.Request.{Request}
use Rattle.fri_commitments.specs.declared.masking.Masking.{Masking}
use Rattle.fri_commitments.specs.Preprocessing.{NamesPreprocessed}
use Rattle.fri_verification.specs.Verdicts.{IsMadeWith, IsMadeFor, IsSchemeOf, IsAcceptedBy}
use Rattle.fri_commitments.specs.Outcomes.{AreCommitments}
use Rattle.fri_opening.specs.Openings.{AreOpenings}
use Rattle.fri_flat.specs.declared.hiding_forms.HidingRequest.{HidingRequest}
use Rattle.fri_flat.specs.declared.hiding_forms.HidingStatement.{HidingStatement}
use Rattle.fri_flat.specs.Flat.{numbers}
use Rattle.fri_flat.specs.Answers.{digests}
use Rattle.fri_flat.specs.Layouts.{layout_of}
use Rattle.fri_flat.specs.Hiding.{hiding_request, IsHidingRequest, hiding_statement}
use Rattle.fri_flat.specs.Hiding.{IsHidingStatement, hiding_answer}

-- the same request, but that the commitment which the index names, if it names one, is preprocessed
pub record IsMarked (request : Request) (index : Option ℕ) (marked : Request) : Type 0 where
  pub context : marked.context ≡ request.context
  pub parameters : marked.parameters ≡ request.parameters
  pub matrices : map (λ b. b.matrices) marked.commitments.items
      ≡ map (λ b. b.matrices) request.commitments.items
  pub named : NamesPreprocessed index marked.commitments.items

module _ {F E : Type 0} (f : SchemeFields F E) where
  -- bytes are a request, and this is it with its commitment marked
  pub record Asks (bytes : List ℕ) (asked : HidingRequest) (marked : Request) : Type 0 where
    pub is_asked : bytes ≡ hiding_request (layout_of f) asked
    pub is_whole : IsHidingRequest (layout_of f) asked
    pub is_marked : IsMarked asked.request asked.preprocessed marked

  -- what a scheme states, and what is seen of a proof
  module _ {P Dom D Proof Error ProverError : Type 0}
      (rules : P → Scheme E (Sha256Challenger F) F Dom (List ℕ) D Proof Error ProverError)
      (shift_of : Dom → F) (log_size_of : Dom → ℕ) (seen : Proof → HidingSeen F E) where
    -- such a scheme accepts the claims of a statement under its context, with a proof whose numbers
    -- the statement lists, and this is drawn after it
    pub record IsAcceptedHiding (IsScheme : P → Type 0) (s : HidingStatement) (next : List ℕ)
        : Type 0 where
      pub proof : Proof
      pub numbers : hiding_numbers f.canonical f.relation.coefficients (seen proof)
          ≡ hiding_listed s.proof
      pub accepted : IsAcceptedBy f rules shift_of log_size_of IsScheme
          (hiding_absorbed f.order f.canonical f.relation.base start s.num_random_codewords
          s.preprocessed) (string_bytes s.context) s.parameters s.preprocessed s.claims.items proof
          next

    -- of what it is made: parameters, the number of random columns and a seed
    module _ (IsMade : setting.Parameters → ℕ → List ℕ → P → Type 0) where
      -- bytes are a statement that is accepted, and others what is drawn after it
      pub record AnswersHidingStatement (bytes out : List ℕ) : Type 0 where
        pub stated : HidingStatement
        pub next_challenge : List ℕ
        pub is_stated : bytes ≡ hiding_statement (layout_of f) stated
        pub is_whole : IsHidingStatement (layout_of f) stated
        pub accepted : IsAcceptedHiding
            (IsMadeFor IsMade stated.parameters stated.num_random_codewords) stated next_challenge
        pub is_answer : out ≡ numbers (layout_of f) next_challenge

      -- what it states as one of a STARK, and what is kept once it has committed
      module _ (stark_rules : P → StarkScheme E F Dom D ProverError)
          (Keeps : P → P → Type 0) where
        -- a scheme that was made of the request's parameters, of so many random columns and of the
        -- seed, and may have committed since
        abbrev pub MasksBy : Masking → Request → P → Type 0
        MasksBy masking request = IsSchemeOf (IsMadeWith IsMade request.parameters
            masking.num_random_codewords masking.seed) Keeps

        -- bytes are a request, and others the commitments to its batches
        pub record CommitsHiding (bytes out : List ℕ) : Type 0 where
          pub asked : HidingRequest
          pub marked : Request
          pub asks : Asks bytes asked marked
          pub commitments : List (List ℕ)
          pub committed : AreCommitments f rules shift_of log_size_of
              (MasksBy asked.masking marked) true stark_rules marked.commitments.items commitments
          pub is_answer : out ≡ digests commitments

        -- bytes are a request, and others an answer of `open` to it: the next challenge, and a
        -- statement with its number of random columns, index, context and parameters, of claims to
        -- which its batches are opened, that is accepted
        pub record AnswersHiding (bytes out : List ℕ) : Type 0 where
          pub asked : HidingRequest
          pub marked : Request
          pub asks : Asks bytes asked marked
          pub answered : HidingStatement
          pub next_challenge : List ℕ
          pub codewords : answered.num_random_codewords ≡ asked.masking.num_random_codewords
          pub index : answered.preprocessed ≡ asked.preprocessed
          pub context : answered.context ≡ marked.context
          pub parameters : answered.parameters ≡ marked.parameters
          pub opened : AreOpenings f rules shift_of log_size_of (MasksBy asked.masking marked) true
              stark_rules marked.commitments.items answered.claims.items
          pub accepted : IsAcceptedHiding (IsMadeWith IsMade marked.parameters
              asked.masking.num_random_codewords asked.masking.seed) answered next_challenge
          pub is_answer : out ≡ hiding_answer (layout_of f) next_challenge answered
