-- The lengths of a proof's lists, without those of its rows, what is wrong with one round's rows,
-- and how many rows are opened of the commitments.
use Rattle.std.specs.Prelude.{◌≡◌, ◌⊎◌, ℕ, ◌-◌, ◌^◌, List, All, length}
use Rattle.std.specs.List.{Any}
use Rattle.p3_fri_relation.specs.declared.error.FriError.{FriError}
use Rattle.p3_fri_relation.specs.declared.error.FriError as refusal
use refusal.TheVariants.{CommitPhaseQueryCountMismatch, SiblingValuesLengthMismatch}
use refusal.TheVariants.{InputProofBatchCountMismatch, InputOpeningsQueryCountMismatch}
use Rattle.p3_fri_relation.specs.Setting.{Parameters, Proof, InputOpening, RoundOpening}
use Rattle.p3_fri_relation.specs.Faults.{At}
use Rattle.p3_fri_pow.specs.Counts.{IsWrongCount}

module _ {F E Com Path InPath : Type 0} (p : Parameters) (log_arities : List ℕ)
    (proof : Proof F E Com Path InPath) where
  pub record HasLengths : Type 0 where
    pub rounds : length proof.rounds ≡ length log_arities
    pub commitments : length proof.commitments ≡ length log_arities
    pub commit_witnesses : length proof.commit_witnesses ≡ length log_arities
    pub final_poly : length proof.final_poly ≡ 2 ^ p.log_final_poly_len

-- of what the round at place `round`, of this log arity, opens
module _ {A B E Path : Type 0} (num_queries log_arity round : ℕ) (r : RoundOpening E Path) where
  abbrev pub SiblingFault : FriError A B → Type 0
  SiblingFault (CommitPhaseQueryCountMismatch place expected got) =
      (place ≡ round) × IsWrongCount num_queries (length r.siblings) expected got
  SiblingFault (SiblingValuesLengthMismatch place expected got) =
      (place ≡ round)
      × Any (λ row. IsWrongCount (2 ^ log_arity - 1) (length row) expected got) r.siblings
  SiblingFault _ = ⊥

-- of what is opened of the commitments
module _ {F InPath : Type 0} (num_queries num_commitments : ℕ)
    (inputs : List (InputOpening F InPath)) where
  -- one opening for each commitment, and in each one set of rows for each query
  pub record HasInputs : Type 0 where
    pub count : length inputs ≡ num_commitments
    pub rows : All (λ o. length o.rows ≡ num_queries) inputs

  -- another number of openings, or of sets of rows in one of them
  abbrev pub InputCountFault : {A B : Type 0} → FriError A B → Type 0
  InputCountFault e =
      ((expected : ℕ) × (got : ℕ) × (e ≡ InputProofBatchCountMismatch expected got)
      × IsWrongCount num_commitments (length inputs) expected got)
      ⊎ ((batch : ℕ) × (expected : ℕ) × (got : ℕ)
      × (e ≡ InputOpeningsQueryCountMismatch batch expected got)
      × At batch (λ o. IsWrongCount num_queries (length o.rows) expected got) inputs)
