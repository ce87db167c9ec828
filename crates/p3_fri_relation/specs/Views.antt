-- Parameters, claims and proofs as lists and numbers.
use Rattle.std.specs.Prelude.{ℕ, List, map}
use Rattle.std.specs.declared.vec.Vec.{Vec}
use Rattle.algebra.specs.Nested.{lists, nested}
use Rattle.p3_fri_folding.specs.declared.config.FriParameters.{FriParameters}
use Rattle.p3_mmcs.specs.declared.openings.MatrixOpening.{MatrixOpening}
use Rattle.p3_mmcs.specs.declared.openings.CommitmentOpening.{CommitmentOpening}
use Rattle.p3_pcs.specs.Claims.{point_claim}
use Rattle.p3_fri_relation.specs.declared.proof.CommitPhaseMultiStep.{CommitPhaseMultiStep}
use Rattle.p3_fri_relation.specs.declared.proof.BatchMultiOpening.{BatchMultiOpening}
use Rattle.p3_fri_relation.specs.declared.proof.FriProof.{FriProof}
use Rattle.p3_fri_relation.specs.Setting.{Parameters, MatrixClaim, CommitmentClaim}
use Rattle.p3_fri_relation.specs.Setting.{InputOpening, RoundOpening, Proof}
use Rattle.p3_fri_relation.specs.FoldedQuery.{QueryInput}

abbrev pub parameters_of : {M : Type 0} → FriParameters M → Parameters
parameters_of p = record {
  log_blowup = p.log_blowup;
  log_final_poly_len = p.log_final_poly_len;
  max_log_arity = p.max_log_arity;
  num_queries = p.num_queries;
  batch_pow_bits = p.batch_proof_of_work_bits;
  commit_pow_bits = p.commit_proof_of_work_bits;
  query_pow_bits = p.query_proof_of_work_bits;
}

module _ {E Domain : Type 0} (log_size : Domain → ℕ) where
  abbrev pub matrix_claim : MatrixOpening E Domain → MatrixClaim E
  matrix_claim m = record { domain = log_size m.domain; points = map point_claim m.points.items }

module _ {E InCom Domain : Type 0} (log_size : Domain → ℕ) where
  -- where `log_size` gives the logarithm of a domain's size
  abbrev pub claims_of : List (CommitmentOpening E InCom Domain) → List (CommitmentClaim E InCom)
  claims_of claims = map (λ c. record {
    commitment = c.commitment;
    matrices = map (matrix_claim log_size) c.matrices.items;
  }) claims

-- what the rounds open, of a scheme `M` of commitments `Com` and proofs `Path`
module _ {E M Com Data Path Err : Type 0} where
  abbrev pub round_opened : CommitPhaseMultiStep E M Com Data Path Err → RoundOpening E Path
  round_opened o = record { siblings = lists o.sibling_values.items; path = o.opening_proof }

  abbrev pub rounds_opened : List (CommitPhaseMultiStep E M Com Data Path Err)
      → List (RoundOpening E Path)
  rounds_opened openings = map round_opened openings

  -- the siblings alone, by round and query
  abbrev pub siblings_opened : List (CommitPhaseMultiStep E M Com Data Path Err)
      → List (List (List E))
  siblings_opened openings = map (λ o. lists o.sibling_values.items) openings

  -- a query that is folded by itself, of what the call is given
  abbrev pub query_input : (query index : ℕ) (betas : List E) (log_arities : List ℕ)
      → List (CommitPhaseMultiStep E M Com Data Path Err) → (inputs : List (ℕ × E))
      → (log_height final_height : ℕ) → QueryInput E
  query_input query index betas log_arities openings inputs log_height final_height = record {
    query = query;
    index = index;
    betas = betas;
    log_arities = log_arities;
    siblings = siblings_opened openings;
    inputs = inputs;
    log_height = log_height;
    final_height = final_height;
  }

-- what the commitments open
module _ {F M Com Data Path Err : Type 0} where
  abbrev pub inputs_opened : List (BatchMultiOpening F M Com Data Path Err)
      → List (InputOpening F Path)
  inputs_opened openings =
      map (λ o. record { rows = nested o.opened_values.items; path = o.opening_proof }) openings

-- rows that were collected in vectors, by round, query and matrix
abbrev pub rows_collected : {T A B D : Type 0} → List (Vec (Vec (Vec T A) B) D)
    → List (List (List (List T)))
rows_collected rounds = map (λ round. nested round.items) rounds

module _ {F E M Com Data Path Err InM InCom InData InPath InErr X : Type 0} where
  abbrev pub proof_of :
      FriProof E M F (Vec (BatchMultiOpening F InM InCom InData InPath InErr) X) Com Data Path Err
      → Proof F E Com Path InPath
  proof_of proof = record {
    batch_witness = proof.batch_pow_witness;
    commitments = proof.commit_phase_commits.items;
    commit_witnesses = proof.commit_pow_witnesses.items;
    inputs = inputs_opened proof.input_openings.items;
    rounds = rounds_opened proof.commit_phase_openings.items;
    final_poly = proof.final_poly.items;
    query_witness = proof.query_pow_witness;
  }
