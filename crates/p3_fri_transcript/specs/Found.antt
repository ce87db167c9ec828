-- What a prover finds along a low-degree test, and where it finds nothing.
use Rattle.std.specs.Prelude.{◌≡◌, ℕ, IsTrue, List, ◌∷◌, ◌++◌, length, Option, Some, ⊤}
use Rattle.p3_challenger_core.specs.Run.{Moves}
use Rattle.p3_fri_folding.specs.declared.error.FriProverError.{FriProverError}
use Rattle.p3_fri_folding.specs.declared.error.FriProverError.TheVariants.{NoPowWitness}
use Rattle.p3_fri_folding.specs.declared.error.FriProverError.TheVariants.{OutOfMemory}
use Rattle.p3_fri_folding.specs.declared.pow_phase.PowPhase.TheVariants.{CommitPhase, Query}
use Rattle.p3_fri_pow.specs.Pow.{sent_witness, NonePasses}
use Rattle.p3_fri_transcript.specs.Steps.{FriNumbers}
use Rattle.p3_fri_transcript.specs.Replay.{round_replay, rounds_replay, polynomial_observed}

module _ {C F E Com : Type 0} (m : Moves C F E Com) (zero : F) (solution : C → ℕ → Option F) where
  -- each round's witness is what the challenger's search gives in the state that the round
  -- reaches, and zero at no bits
  abbrev pub RoundsFound : (bits : ℕ) (c : C) (commitments : List Com) (witnesses : List F)
      → Type 0
  RoundsFound bits c (commitment ∷ commitments) (witness ∷ witnesses) =
      let observed = m.observe_commitment c commitment in
      (sent_witness zero solution observed bits ≡ Some witness)
      × RoundsFound bits (round_replay m bits c commitment witness).state commitments witnesses
  RoundsFound bits c _ _ = ⊤

  -- so is each round's witness, and the queries' after them
  pub record FriFound (coefficients : E → List F) (shape : FriNumbers) (c : C)
      (commitments : List Com) (witnesses : List F) (final_poly : List E) (witness : F)
      : Type 0 where
    pub rounds : RoundsFound shape.commit_pow_bits c commitments witnesses
    pub query :
        let after = (rounds_replay m shape.commit_pow_bits c commitments witnesses).state in
        let observed = polynomial_observed m.observe_value coefficients after final_poly in
        sent_witness zero solution observed shape.query_pow_bits ≡ Some witness

  -- after some of the rounds, which pass with the witnesses found in them, none passes at the next
  pub record RoundNotFound (bits : ℕ) (c : C) (commitments : List Com) : Type 0 where
    pub before : List Com
    pub next : Com
    pub others : List Com
    pub witnesses : List F
    pub all : commitments ≡ before ++ next ∷ others
    pub count : length witnesses ≡ length before
    pub found : RoundsFound bits c before witnesses
    pub passes : IsTrue (rounds_replay m bits c before witnesses).passes
    pub none_passes :
        let reached = (rounds_replay m bits c before witnesses).state in
        NonePasses m.observe_value m.draw_bits (m.observe_commitment reached next) bits

  -- after all rounds, which pass with the witnesses found in them, none passes before the queries
  pub record QueryNotFound (coefficients : E → List F) (shape : FriNumbers) (c : C)
      (commitments : List Com) (final_poly : List E) : Type 0 where
    pub witnesses : List F
    pub count : length witnesses ≡ length commitments
    pub found : RoundsFound shape.commit_pow_bits c commitments witnesses
    pub passes : IsTrue (rounds_replay m shape.commit_pow_bits c commitments witnesses).passes
    pub none_passes :
        let reached = (rounds_replay m shape.commit_pow_bits c commitments witnesses).state in
        let observed = polynomial_observed m.observe_value coefficients reached final_poly in
        NonePasses m.observe_value m.draw_bits observed shape.query_pow_bits

  -- why a prover refuses the rounds
  abbrev pub RoundsRefused : (bits : ℕ) (c : C) (commitments : List Com) → FriProverError → Type 0
  RoundsRefused bits c commitments (NoPowWitness CommitPhase) = RoundNotFound bits c commitments
  RoundsRefused bits c commitments OutOfMemory = ⊤
  RoundsRefused bits c commitments _ = ⊥

  -- why a prover refuses a test whose seed was absorbed
  abbrev pub PlayRefused : (E → List F) → FriNumbers → (c : C) (commitments : List Com)
      (final_poly : List E) → FriProverError → Type 0
  PlayRefused coefficients shape c commitments final_poly (NoPowWitness CommitPhase) =
      RoundNotFound shape.commit_pow_bits c commitments
  PlayRefused coefficients shape c commitments final_poly (NoPowWitness Query) =
      QueryNotFound coefficients shape c commitments final_poly
  PlayRefused coefficients shape c commitments final_poly OutOfMemory = ⊤
  PlayRefused coefficients shape c commitments final_poly _ = ⊥
