-- Bytes that answer others: what the scheme answers, in the flat form.
use Rattle.std.specs.Prelude.{◌≡◌, ℕ, List, map, string_bytes}
use Rattle.std.specs.List.{AllZip, flat_map}
use Rattle.std.specs.Global.{Global}
use Rattle.std.specs.declared.vec.Vec.{Vec}
use Rattle.algebra.specs.Nested.{lists}
use Rattle.p3_fri_relation.specs.Setting.{InputOpening, RoundOpening, Proof}
use Rattle.p3_fri_plain.specs.Numbers.{Digest, Paths, ProofNumbers, proof_numbers}
use Rattle.p3_fri_plain.specs.Views.{proof_listed}
use Rattle.fri_statement.specs.Context.{challenge_of}
use Rattle.fri_statement.specs.Setting.{SchemeFields, prime_fields}
use Rattle.fri_records.specs.declared.records.Request.{Request}
use Rattle.fri_requests.specs.Accepted.{IsAccepted}
use Rattle.fri_numbers.specs.Claims.{batch_listed}
use Rattle.fri_requests.specs.Commitments.{IsCommitmentTo}
use Rattle.fri_numbers.specs.Numbers.{extension_numbers}
use Rattle.fri_requests.specs.Opened.{IsOpened}
use Rattle.fri_flat.specs.declared.statement.Statement.{Statement}
use Rattle.fri_flat.specs.Flat.{numbers, request, IsRequest, statement, IsStatement, answer}
use Rattle.fri_flat.specs.Layouts.{layout_of}

-- for each query the digests of its path
abbrev pub VectorPaths : Type 0
VectorPaths = Vec (Vec Digest Global) Global

abbrev pub VectorProof : Type 0 → Type 0 → Type 0
VectorProof F E = Proof F E Digest VectorPaths VectorPaths

-- what is opened, with the lists of such paths
abbrev pub input_shown : {F : Type 0} → InputOpening F VectorPaths → InputOpening F Paths
input_shown o = record { rows = o.rows; path = lists o.path.items }

abbrev pub round_shown : {E : Type 0} → RoundOpening E VectorPaths → RoundOpening E Paths
round_shown o = record { siblings = o.siblings; path = lists o.path.items }

-- commitments one after another
abbrev pub digests : List (List ℕ) → List ℕ
digests commitments = flat_map (λ commitment. commitment) commitments

module _ {F E : Type 0} (f : SchemeFields F E) where
  -- the numbers of a proof with such paths: what its plain form lists
  abbrev pub numbers_of : VectorProof F E → ProofNumbers
  numbers_of p = proof_numbers f.canonical f.relation.coefficients (record {
    batch_witness = p.batch_witness;
    commitments = p.commitments;
    commit_witnesses = p.commit_witnesses;
    inputs = map input_shown p.inputs;
    rounds = map round_shown p.rounds;
    final_poly = p.final_poly;
    query_witness = p.query_witness;
  })

  -- the claims of a statement are accepted under its context, with the proof whose numbers the
  -- statement lists, and what is drawn after it
  pub record IsAcceptedStatement (s : Statement) (next : List ℕ) : Type 0 where
    pub proof : VectorProof F E
    pub numbers : numbers_of proof ≡ proof_listed s.proof
    pub accepted : IsAccepted f (string_bytes s.context) s.parameters s.claims.items proof next

  -- bytes are a request, and others the commitments to its batches
  pub record CommitsRequest (bytes out : List ℕ) : Type 0 where
    pub asked : Request
    pub commitments : List (List ℕ)
    pub is_asked : bytes ≡ request (layout_of f) asked
    pub is_whole : IsRequest (layout_of f) asked
    pub committed : AllZip (IsCommitmentTo f asked.parameters.log_blowup) commitments
        asked.commitments.items
    pub is_answer : out ≡ digests commitments

  -- bytes are a request, and others an answer of `open` to it: the next challenge, and a statement
  -- with its context and parameters, of claims to which its batches are opened, that is accepted
  pub record AnswersRequest (bytes out : List ℕ) : Type 0 where
    pub asked : Request
    pub answered : Statement
    pub next_challenge : List ℕ
    pub is_asked : bytes ≡ request (layout_of f) asked
    pub is_whole : IsRequest (layout_of f) asked
    pub context : answered.context ≡ asked.context
    pub parameters : answered.parameters ≡ asked.parameters
    pub opened : AllZip (IsOpened f asked.parameters.log_blowup)
        (map batch_listed answered.claims.items) asked.commitments.items
    pub accepted : IsAcceptedStatement answered next_challenge
    pub is_answer : out ≡ answer (layout_of f) next_challenge answered

  -- bytes are a statement that is accepted, and others what is drawn after it
  pub record AnswersStatement (bytes out : List ℕ) : Type 0 where
    pub stated : Statement
    pub next_challenge : List ℕ
    pub is_stated : bytes ≡ statement (layout_of f) stated
    pub is_whole : IsStatement (layout_of f) stated
    pub accepted : IsAcceptedStatement stated next_challenge
    pub is_answer : out ≡ numbers (layout_of f) next_challenge

  -- what is drawn after a context alone, its bytes
  abbrev pub drawn_after : (context : List ℕ) → List ℕ
  drawn_after context =
      numbers (layout_of f) (extension_numbers f (challenge_of (prime_fields f) context))
