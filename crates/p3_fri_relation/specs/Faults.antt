-- What of the input makes each refusal a true one.
use Rattle.std.specs.Prelude.{◌≡◌, ◌≢◌, ◌⊎◌, ℕ, suc, ◌+◌, ◌-◌, ◌^◌, ◌<◌, ◌≤◌, min, Bool, false}
use Rattle.std.specs.Prelude.{IsTrue, List, [], ◌∷◌, map, length, sum, ⊤, EachIndex, SomeIndex}
use Rattle.std.specs.Prelude.{slice_index, slice_index_or}
use Rattle.std.specs.List.{Any, zip, range_with_len}
use Rattle.p3_fri_pow.specs.Counts.{IsWrongCount}
use Rattle.p3_fri_folding.specs.declared.pow_phase.PowPhase.{PowPhase}
use Rattle.p3_fri_folding.specs.declared.pow_phase.PowPhase.TheVariants.{Batch, CommitPhase, Query}
use Rattle.p3_fri_relation.specs.declared.error.FriError.{FriError}
use Rattle.p3_fri_relation.specs.declared.error.FriError as refusal
use refusal.TheVariants.{CommitPhaseOpeningsCountMismatch, CommitRoundCountMismatch}
use refusal.TheVariants.{CommitPhaseQueryCountMismatch, InputOpeningsQueryCountMismatch}
use refusal.TheVariants.{CommitPowWitnessCountMismatch, FinalPolyLengthMismatch, ZeroQueries}
use refusal.TheVariants.{NoCommittedMatrices, ZeroFoldingArity, ZeroBlowup}
use refusal.TheVariants.{MissingInitialReducedOpening, InitialReducedOpeningHeightMismatch}
use refusal.TheVariants.{GlobalMaxHeightTooLarge, SiblingValuesLengthMismatch}
use refusal.TheVariants.{FinalFoldHeightMismatch, FoldScheduleArityOutOfRange, FoldScheduleTooLong}
use refusal.TheVariants.{UnconsumedReducedOpenings, InputProofBatchCountMismatch}
use refusal.TheVariants.{BatchOpenedValuesCountMismatch, MatrixWithoutOpeningPoints}
use refusal.TheVariants.{PointEvaluationCountMismatch, CommitPhaseMmcsError, InputError}
use refusal.TheVariants.{FinalPolyMismatch, InvalidPowWitness, NonCanonicalPowWitness}
use refusal.TheVariants.{OpeningPointMatchesQueryPoint, OutOfMemory}
use Rattle.p3_fri_relation.specs.Setting.{Fields, Opening, Setting, Parameters}
use Rattle.p3_fri_relation.specs.Setting.{CommitmentClaim, InputOpening, Proof}
use Rattle.p3_fri_relation.specs.Setting.{final_height}
use Rattle.p3_fri_relation.specs.Heights.{matrices_of, width, log_height, has_height, heights_of}
use Rattle.p3_fri_relation.specs.QuotientSums.{point_read, IsDefinedAt}
use Rattle.p3_fri_relation.specs.Inputs.{OpensInput, sum_at}
use Rattle.p3_fri_relation.specs.FoldedQuery.{QueryInput, folded, last_height, reaches}
use Rattle.p3_fri_relation.specs.Acceptance.{top_height, log_arities, positions, OpensRound}
use Rattle.p3_fri_relation.specs.Acceptance.{QueryEnds, rounds_replayed, queries_replayed}
use Rattle.p3_fri_relation.specs.Acceptance.{test_replay, batch_replayed}

-- the `i`-th element is there, and `P` holds of it
abbrev pub At : {A : Type 0} → (i : ℕ) (P : A → Type 0) → List A → Type 0
At {A} i P xs = (x : A) × (i < length xs) × (slice_index_or xs i x ≡ x) × P x

-- of log heights after `h`, the first that isn't below the one before it or isn't met is `next`,
-- and `remaining` are left from it on
abbrev pub IsUnmet : (met : ℕ → Bool) (next remaining h : ℕ) → List ℕ → Type 0
IsUnmet met next remaining h [] = ⊥
IsUnmet met next remaining h (k ∷ heights) =
    ((next ≡ k) × (remaining ≡ suc (length heights)) × ((h ≤ k) ⊎ (met k ≡ false)))
    ⊎ ((k < h) × IsTrue (met k) × IsUnmet met next remaining k heights)

abbrev pub IsUnconsumed : (met : ℕ → Bool) (next remaining : ℕ) → List ℕ → Type 0
IsUnconsumed met next remaining [] = ⊥
IsUnconsumed met next remaining (h ∷ heights) = IsUnmet met next remaining h heights

module _ {A B E : Type 0} (q : QueryInput E) where
  -- of a query that is folded by itself
  abbrev pub QueryFault : FriError A B → Type 0
  QueryFault (FoldScheduleArityOutOfRange round log_arity) =
      (round < length q.log_arities) × (log_arity ≡ slice_index q.log_arities round)
      × ((log_arity ≡ 0) ⊎ (64 ≤ log_arity))
  QueryFault (CommitPhaseQueryCountMismatch round expected got) =
      (round < length q.log_arities) × (round < length q.siblings)
      × (expected ≡ q.query + 1) × (got ≡ length (slice_index_or q.siblings round []))
      × (got < expected)
  QueryFault (SiblingValuesLengthMismatch round expected got) =
      (round < length q.log_arities) × (round < length q.siblings)
      × (q.query < length (slice_index_or q.siblings round []))
      × IsWrongCount (2 ^ slice_index q.log_arities round - 1)
      (length (slice_index_or (slice_index_or q.siblings round []) q.query [])) expected got
  QueryFault (FoldScheduleTooLong total top final) =
      (total ≡ min (sum q.log_arities) (2 ^ 64 - 1)) × (top ≡ q.log_height)
      × (final ≡ q.final_height) × (top - final < sum q.log_arities)
  QueryFault (MissingInitialReducedOpening expected) = (q.inputs ≡ []) × (expected ≡ q.log_height)
  QueryFault (InitialReducedOpeningHeightMismatch expected got) =
      (0 < length q.inputs)
      × IsWrongCount q.log_height (slice_index (map (λ input. input.0) q.inputs) 0) expected got
  QueryFault (FinalFoldHeightMismatch expected got) =
      IsWrongCount q.final_height (last_height q) expected got
  QueryFault (UnconsumedReducedOpenings next remaining) =
      IsUnconsumed (reaches (folded q) q.log_height) next remaining
      (map (λ input. input.0) q.inputs)
  QueryFault OutOfMemory = ⊤
  QueryFault _ = ⊥

-- at some position, where all quotient sums are defined, that of the log height `log_blowup` isn't
-- zero
abbrev pub IsConstantWrong : {F E InCom InPath : Type 0} → Fields F E → (log_blowup : ℕ) (alpha : E)
    (top : ℕ) → List (CommitmentClaim E InCom) → List (InputOpening F InPath) → (positions : List ℕ)
    → Type 0
IsConstantWrong f log_blowup alpha top claims inputs positions =
    IsTrue (has_height log_blowup (matrices_of claims) log_blowup)
    × SomeIndex positions (λ j. IsDefinedAt f log_blowup top claims (slice_index positions j)
    × (sum_at f log_blowup alpha top claims inputs j (slice_index positions j) log_blowup
    ≢ f.ext.zero))

module _ {A B F E InCom InPath : Type 0} (f : Fields F E) (log_blowup : ℕ) (alpha : E) (top : ℕ)
    (claims : List (CommitmentClaim E InCom)) (inputs : List (InputOpening F InPath))
    (opens : Opening F InCom InPath) (positions : List ℕ) where
  -- of the openings of the inputs
  abbrev pub InputFault : FriError A B → Type 0
  InputFault (InputProofBatchCountMismatch expected got) =
      IsWrongCount (length claims) (length inputs) expected got
  InputFault (InputOpeningsQueryCountMismatch batch expected got) =
      At batch (λ o. IsWrongCount (length positions) (length o.rows) expected got) inputs
  InputFault (BatchOpenedValuesCountMismatch batch expected got) =
      At batch (λ (claim, o). Any (λ rows.
      IsWrongCount (length claim.matrices) (length rows) expected got)
      o.rows) (zip claims inputs)
  InputFault (MatrixWithoutOpeningPoints batch matrix) =
      At batch (λ claim. At matrix (λ m. m.points ≡ []) claim.matrices) claims
  InputFault (PointEvaluationCountMismatch batch matrix point expected got) =
      At batch (λ claim. At matrix (λ m. At point (λ z.
      IsWrongCount (width m) (length z.values) expected got)
      m.points) claim.matrices) claims
  InputFault (InputError _) =
      Any (λ (claim, o). ¬ OpensInput opens log_blowup top positions claim o) (zip claims inputs)
  InputFault (OpeningPointMatchesQueryPoint batch matrix point) =
      At batch (λ claim. At matrix (λ m. At point (λ z. Any (λ position.
      z.point ≡ point_read f top position (log_height log_blowup m)) positions)
      m.points) claim.matrices) claims
  InputFault FinalPolyMismatch =
      IsConstantWrong f log_blowup alpha top claims inputs positions
  InputFault OutOfMemory = ⊤
  InputFault _ = ⊥

module _ {A B E InCom : Type 0} (p : Parameters) (claims : List (CommitmentClaim E InCom)) where
  -- of the parameters and the claims, in a field of this two-adicity
  abbrev pub InstanceFault : (two_adicity : ℕ) → FriError A B → Type 0
  InstanceFault two_adicity ZeroQueries = p.num_queries ≡ 0
  InstanceFault two_adicity NoCommittedMatrices = matrices_of claims ≡ []
  InstanceFault two_adicity ZeroFoldingArity = p.max_log_arity ≡ 0
  InstanceFault two_adicity ZeroBlowup = p.log_blowup ≡ 0
  InstanceFault two_adicity (GlobalMaxHeightTooLarge top greatest) =
      (top ≡ top_height p claims) × (greatest ≡ two_adicity) × (greatest < top)
  InstanceFault two_adicity (FinalFoldHeightMismatch expected got) =
      IsWrongCount (final_height p) (top_height p claims - sum (log_arities p claims)) expected got
  InstanceFault two_adicity (UnconsumedReducedOpenings next remaining) =
      IsUnconsumed (reaches (log_arities p claims) (top_height p claims)) next remaining
      (heights_of p.log_blowup (matrices_of claims))
  InstanceFault two_adicity _ = ⊥

-- of the lengths of a proof's lists, where the rounds have these log arities
module _ {A B F E Com Path InPath : Type 0} (p : Parameters) (log_arities : List ℕ)
    (proof : Proof F E Com Path InPath) where
  abbrev pub CountFault : FriError A B → Type 0
  CountFault (CommitPhaseOpeningsCountMismatch expected got) =
      IsWrongCount (length log_arities) (length proof.rounds) expected got
  CountFault (CommitRoundCountMismatch expected got) =
      IsWrongCount (length log_arities) (length proof.commitments) expected got
  CountFault (CommitPowWitnessCountMismatch expected got) =
      IsWrongCount (length log_arities) (length proof.commit_witnesses) expected got
  CountFault (CommitPhaseQueryCountMismatch round expected got) =
      At round (λ r. IsWrongCount p.num_queries (length r.siblings) expected got) proof.rounds
  CountFault (SiblingValuesLengthMismatch round expected got) =
      (round < length log_arities) × At round (λ r. Any (λ row.
      IsWrongCount (2 ^ slice_index log_arities round - 1) (length row) expected got) r.siblings)
      proof.rounds
  CountFault (FinalPolyLengthMismatch expected got) =
      IsWrongCount (2 ^ p.log_final_poly_len) (length proof.final_poly) expected got
  CountFault _ = ⊥

-- a witness of a phase at no bits isn't zero
module _ {F E Com Path InPath : Type 0} (p : Parameters) (proof : Proof F E Com Path InPath)
    (zero : F) where
  abbrev pub IsNotCanonical : PowPhase → Type 0
  IsNotCanonical Batch = (p.batch_pow_bits ≡ 0) × (proof.batch_witness ≢ zero)
  IsNotCanonical CommitPhase =
      (p.commit_pow_bits ≡ 0) × Any (λ w. w ≢ zero) proof.commit_witnesses
  IsNotCanonical Query = (p.query_pow_bits ≡ 0) × (proof.query_witness ≢ zero)

module _ {F E C Com Path InCom InPath : Type 0} (s : Setting F E C Com Path InCom InPath)
    (p : Parameters) (claims : List (CommitmentClaim E InCom)) (proof : Proof F E Com Path InPath)
  where
    -- the proofs of work of a phase of the test, from the challenger's state `c`, don't all pass
    abbrev pub DoNotPass : (c : C) → PowPhase → Type 0
    DoNotPass c Batch = ⊥
    DoNotPass c CommitPhase = (rounds_replayed s p claims proof c).passes ≡ false
    DoNotPass c Query = (queries_replayed s p claims proof c).passes ≡ false

    -- query `j`, whose quotient sums are defined, doesn't end at the final polynomial
    abbrev pub EndsElsewhere :
        (alpha : E) (betas : List E) (positions : List ℕ) (j : ℕ) → Type 0
    EndsElsewhere alpha betas positions j =
        IsDefinedAt s.fields p.log_blowup (top_height p claims) claims (slice_index positions j)
        × (¬ QueryEnds s p claims proof alpha betas positions j)

module _ {A B F E C Com Path InCom InPath : Type 0} (s : Setting F E C Com Path InCom InPath)
    (p : Parameters) (claims : List (CommitmentClaim E InCom)) (proof : Proof F E Com Path InPath)
  where
    -- of the proofs of work, from the challenger's state `c`
    abbrev pub WorkFault : (c : C) → FriError A B → Type 0
    WorkFault c (InvalidPowWitness phase) = DoNotPass s p claims proof c phase
    WorkFault c (NonCanonicalPowWitness phase) =
        IsNotCanonical p proof s.fields.base.zero phase
    WorkFault c _ = ⊥

    -- of the openings, at these positions and with these folding challenges: rows of a round aren't
    -- those that the queries fold where all their quotient sums are defined, or a query ends
    -- elsewhere
    module _ (alpha : E) (betas : List E) (positions : List ℕ) where
      abbrev pub RoundsFault : FriError A B → Type 0
      RoundsFault (CommitPhaseMmcsError _) =
          EachIndex positions (λ j.
          IsDefinedAt s.fields p.log_blowup (top_height p claims) claims (slice_index positions j))
          × Any (λ (k, opening). ¬ OpensRound s p claims proof alpha betas positions k opening)
          (zip (range_with_len 0 (length (log_arities p claims)))
          (zip proof.commitments proof.rounds))
      RoundsFault FinalPolyMismatch =
          SomeIndex positions (EndsElsewhere s p claims proof alpha betas positions)
      RoundsFault _ = ⊥

      abbrev pub OpeningsFault : FriError A B → Type 0
      OpeningsFault e =
          InputFault s.fields p.log_blowup alpha (top_height p claims) claims proof.inputs
          s.opens_input positions e
          ⊎ RoundsFault e

    -- of the low-degree test, from the challenger's state `c` and with the batching challenge
    -- `alpha`: a fault of what is asked for, of the proof's lengths, of its proofs of work, of the
    -- openings, or want of memory
    abbrev pub Stands : (c : C) (alpha : E) → FriError A B → Type 0
    Stands c alpha e =
        InstanceFault p claims s.fields.two_adicity e
        ⊎ CountFault p (log_arities p claims) proof e
        ⊎ WorkFault c e
        ⊎ OpeningsFault alpha (test_replay s p claims proof c).betas
        (positions s p claims proof c) e
        ⊎ (e ≡ OutOfMemory)

    -- of the scheme around the test, from the state in which it begins
    abbrev pub StandsInScheme : (c : C) → FriError A B → Type 0
    StandsInScheme c e =
        let batch = batch_replayed s p claims proof c in
        ((e ≡ InvalidPowWitness Batch) × (batch.passes ≡ false)) ⊎ Stands batch.state batch.alpha e
