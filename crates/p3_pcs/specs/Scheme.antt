-- What a scheme opens, accepts and refuses, named once.
use Rattle.std.specs.Prelude.{◌≡◌, ◌≢◌, ◌⊎◌, ℕ, List, Option, map}
use Rattle.std.proofs.Common.{refl, sym, subst, ◌∙◌}
use Rattle.p3_matrix.specs.declared.dense.RowMajorMatrix.{RowMajorMatrix}
use Rattle.p3_pcs.specs.Claims.{Claim}
use Rattle.p3_pcs.specs.Requests.{Held, HasColumns, Request, AreOpenable, AreHonest}
use Rattle.p3_pcs.specs.Requests.{honest_values, honest_claims, FitDomains}

-- Over points of a field `E` and states `C` of a challenger, a scheme that commits to matrices of
-- elements `V` on domains `Dom`. An index names the request, or the claim, of preprocessed columns,
-- if there is one.
pub record Scheme (E C V Dom Com D Proof Error ProverError : Type 0) : Type 1 where
  -- how many points a domain has
  pub domain_size : Dom → ℕ
  -- there is a domain of that many points
  pub HasDomain : ℕ → Type 0
  -- the commitment to a datum
  pub commitment_of : D → Com
  -- what a datum is a commitment to, matrix by matrix
  pub committed_polynomials : D → List (Held E)
  -- a datum may be opened
  pub CanOpen : D → Type 0
  -- a datum holds what was committed to: its words are of low degree
  pub IsHonest : D → Type 0
  -- what an opening leaves of a datum
  pub after_opening : D → D
  -- matrices on these domains may be committed to
  pub CanCommit : List (Dom × RowMajorMatrix V) → Type 0
  -- the committed polynomials of a matrix are those of its columns on the domain
  pub Extends : Held E → Dom × RowMajorMatrix V → Type 0
  -- a commitment to these matrices may be refused for this reason
  pub CommitRefuses : List (Dom × RowMajorMatrix V) → ProverError → Type 0
  -- the parameters are such that the scheme opens
  pub InProverRange : Type 0
  -- the parameters are such that the scheme verifies
  pub InVerifierRange : Type 0
  -- what is asked of requests before a challenger is touched holds
  pub PassesChecks : Option ℕ → List (Request D E) → Type 0
  -- an opening that begins in this state may be refused for this reason
  pub Refuses : Option ℕ → C → List (Request D E) → ProverError → Type 0
  -- the refusals of an opening that leave the challenger as it was
  pub LeavesState : ProverError → Type 0
  -- the relation that is verified: the claims hold, by the proof, from this state
  pub Accepts : Option ℕ → C → List (Claim E Com Dom) → Proof → Type 0
  -- the state in which a proof of claims ends that begins in this one
  pub last_state : Option ℕ → C → List (Claim E Com Dom) → Proof → C
  -- a refusal names a fault that the claims or the proof have
  pub IsTrueRefusal : Option ℕ → List (Claim E Com Dom) → Proof → C → Error → Type 0
  -- the refusals of a verifier that leave the challenger as it was
  pub LeavesVerifier : Error → Type 0
  -- a verifier's want of memory, which says nothing of the relation
  pub out_of_memory : Error

module _ {E C V Dom Com D Proof Error ProverError : Type 0}
    (r : Scheme E C V Dom Com D Proof Error ProverError) where
  -- What holds of every scheme: what is committed to has the size of its domain and a column, an
  -- opening leaves of a datum what it is a commitment to, and a refusal is want of memory or isn't.
  pub record IsLawful : Type 0 where
    pub extends_size : (m : Held E) (e : Dom × RowMajorMatrix V) → r.Extends m e
        → m.size ≡ r.domain_size e.0
    pub extends_columns : (m : Held E) (e : Dom × RowMajorMatrix V) → r.Extends m e → HasColumns m
    pub opened_commitment : (d : D) → r.commitment_of (r.after_opening d) ≡ r.commitment_of d
    pub opened_polynomials : (d : D)
        → r.committed_polynomials (r.after_opening d) ≡ r.committed_polynomials d
    pub opened_honest : (d : D) → r.IsHonest d → r.IsHonest (r.after_opening d)
    pub memory : (e : Error) → (e ≡ r.out_of_memory) ⊎ (e ≢ r.out_of_memory)

  -- requests that may be opened
  abbrev pub CanBeOpened : List (Request D E) → Type 0
  CanBeOpened asked = AreOpenable r.CanOpen r.committed_polynomials asked

  -- requests of an honest prover
  abbrev pub AreHonestIn : List (Request D E) → Type 0
  AreHonestIn asked = AreHonest r.IsHonest asked

  -- the values that requests ask for: those of the committed polynomials
  abbrev pub values_asked : List (Request D E) → List (List (List (List E)))
  values_asked asked = map (honest_values r.committed_polynomials) asked

  -- the domains fit the requests
  abbrev pub FitRequests : List (List Dom) → List (Request D E) → Type 0
  FitRequests domains asked = FitDomains r.committed_polynomials r.domain_size domains asked

  -- the honest claims of requests on these domains
  abbrev pub claims_asked : List (List Dom) → List (Request D E) → List (Claim E Com Dom)
  claims_asked domains asked = honest_claims r.committed_polynomials r.commitment_of domains asked

-- what is known of data under the old scheme is known under the new one
pub record AreKept {E C V Dom Com D Proof Error ProverError : Type 0}
    (old new : Scheme E C V Dom Com D Proof Error ProverError) : Type 0 where
  pub sizes : new.domain_size ≡ old.domain_size
  pub commitments : new.commitment_of ≡ old.commitment_of
  pub polynomials : (d : D) → new.committed_polynomials d ≡ old.committed_polynomials d
  pub openings : new.after_opening ≡ old.after_opening
  pub openable : (d : D) → old.CanOpen d → new.CanOpen d
  pub honest : (d : D) → old.IsHonest d → new.IsHonest d
  pub committable : (evaluations : List (Dom × RowMajorMatrix V))
      → old.CanCommit evaluations → new.CanCommit evaluations
  pub extends : (m : Held E) (e : Dom × RowMajorMatrix V) → old.Extends m e → new.Extends m e
  pub refusals : (evaluations : List (Dom × RowMajorMatrix V)) (e : ProverError)
      → new.CommitRefuses evaluations e → old.CommitRefuses evaluations e
  pub prover_range : old.InProverRange → new.InProverRange
  pub verifier_range : old.InVerifierRange → new.InVerifierRange
  pub memory : new.out_of_memory ≡ old.out_of_memory

-- a scheme that stays as it is keeps what is known
pub still_kept : {E C V Dom Com D Proof Error ProverError : Type 0}
    (r : Scheme E C V Dom Com D Proof Error ProverError) → AreKept r r
still_kept r = record {
  sizes = refl;
  commitments = refl;
  polynomials = λ d. refl;
  openings = refl;
  openable = λ d h. h;
  honest = λ d h. h;
  committable = λ es h. h;
  extends = λ m e h. h;
  refusals = λ es e h. h;
  prover_range = λ h. h;
  verifier_range = λ h. h;
  memory = refl;
}

-- the same where two schemes are equal
pub same_kept : {S E C V Dom Com D Proof Error ProverError : Type 0}
    (old new : S) → new ≡ old → (rules : S → Scheme E C V Dom Com D Proof Error ProverError)
    → AreKept (rules old) (rules new)
same_kept old new same rules =
    subst (λ s. AreKept (rules old) (rules s)) (sym same) (still_kept (rules old))

-- what is known under one scheme and kept under the next is known under a later one
pub kept_since : {E C V Dom Com D Proof Error ProverError : Type 0}
    (old new later : Scheme E C V Dom Com D Proof Error ProverError)
    → AreKept old new → AreKept new later → AreKept old later
kept_since old new later kept since = record {
  sizes = since.sizes ∙ kept.sizes;
  commitments = since.commitments ∙ kept.commitments;
  polynomials = λ d. since.polynomials d ∙ kept.polynomials d;
  openings = since.openings ∙ kept.openings;
  openable = λ d h. since.openable d (kept.openable d h);
  honest = λ d h. since.honest d (kept.honest d h);
  committable = λ es h. since.committable es (kept.committable es h);
  extends = λ m e h. since.extends m e (kept.extends m e h);
  refusals = λ es e h. kept.refusals es e (since.refusals es e h);
  prover_range = λ h. since.prover_range (kept.prover_range h);
  verifier_range = λ h. since.verifier_range (kept.verifier_range h);
  memory = since.memory ∙ kept.memory;
}
