-- When a verifier's transcript passes, and why it refuses.
use Rattle.std.specs.Prelude.{◌≡◌, ◌⊎◌, ℕ, IsTrue, List, length, Option, ⊤}
use Rattle.algebra.specs.Field.{FieldOps}
use Rattle.p3_challenger_core.specs.Run.{Moves}
use Rattle.p3_fri_folding.specs.declared.pow_phase.PowPhase.TheVariants.{CommitPhase, Query}
use Rattle.p3_fri_pow.specs.Counts.{IsWrongCount}
use Rattle.p3_fri_pow.specs.Pow.{IsMissing, IsWrongWitness}
use Rattle.p3_fri_transcript.specs.declared.transcript.failure.TranscriptFailure.{TranscriptFailure}
use Rattle.p3_fri_transcript.specs.declared.transcript.failure.TranscriptFailure.TheVariants as Why
use Rattle.p3_fri_transcript.specs.Steps.{FriNumbers}
use Rattle.p3_fri_transcript.specs.Replay.{rounds_replay, shown_queries_replay, fri_replay}
use Rattle.p3_fri_transcript.specs.Replay.{polynomial_observed}

module _ {C F E Com : Type 0} (m : Moves C F E Com) where
  module _ (shape : FriNumbers) (c : C) (commitments : List Com) (witnesses : List F) where
    -- there is a commitment and a witness for each round, and all proofs of work pass
    pub record RoundsPass : Type 0 where
      pub commitment_count : length commitments ≡ length shape.log_arities
      pub witness_count : length witnesses ≡ length shape.log_arities
      pub pow : IsTrue (rounds_replay m shape.commit_pow_bits c commitments witnesses).passes

    -- why the rounds are refused; a wrong count leaves the challenger as it was
    abbrev pub RoundsFailure : (after : C) → TranscriptFailure → Type 0
    RoundsFailure after (Why.CommitRoundCount expected got) =
        IsWrongCount (length shape.log_arities) (length commitments) expected got × (after ≡ c)
    RoundsFailure after (Why.CommitPowWitnessCount expected got) =
        IsWrongCount (length shape.log_arities) (length witnesses) expected got
        × (length commitments ≡ length shape.log_arities) × (after ≡ c)
    RoundsFailure after (Why.PowWitness CommitPhase) =
        (length commitments ≡ length shape.log_arities)
        × (length witnesses ≡ length shape.log_arities)
        × (¬ IsTrue (rounds_replay m shape.commit_pow_bits c commitments witnesses).passes)
    RoundsFailure after Why.OutOfMemory = ⊤
    RoundsFailure after _ = ⊥

  module _ (coefficients : E → List F) (shape : FriNumbers) where
    module _ (c : C) (final_poly : List E) (witness : Option F) where
      -- the polynomial has the described length, and the proof of work passes
      pub record QueriesPass : Type 0 where
        pub coefficient_count : length final_poly ≡ shape.final_poly_len
        pub pow : IsTrue (shown_queries_replay m coefficients shape c final_poly witness).passes

      -- why the queries are refused; a wrong length leaves the challenger as it was
      abbrev pub QueriesFailure : (after : C) → TranscriptFailure → Type 0
      QueriesFailure after (Why.FinalPolyLen expected got) =
          IsWrongCount shape.final_poly_len (length final_poly) expected got × (after ≡ c)
      QueriesFailure after (Why.MissingPowWitness Query) =
          (length final_poly ≡ shape.final_poly_len) × IsMissing shape.query_pow_bits witness
      QueriesFailure after (Why.PowWitness Query) =
          (length final_poly ≡ shape.final_poly_len)
          × IsWrongWitness m.observe_value m.draw_bits
          (polynomial_observed m.observe_value coefficients c final_poly)
          shape.query_pow_bits witness
      QueriesFailure after Why.OutOfMemory = ⊤
      QueriesFailure after _ = ⊥

    module _ (c : C) (commitments : List Com) (witnesses : List F) (final_poly : List E)
        (witness : Option F) where
      -- all counts are as described, and each proof of work passes
      pub record FriPasses (ops : FieldOps F) (stream : List ℕ) : Type 0 where
        pub commitment_count : length commitments ≡ length shape.log_arities
        pub witness_count : length witnesses ≡ length shape.log_arities
        pub coefficient_count : length final_poly ≡ shape.final_poly_len
        pub pow : IsTrue (fri_replay m coefficients shape ops stream c commitments witnesses
            final_poly witness).passes

      -- why a test is refused whose seed was absorbed: for its rounds, or, where these pass, for
      -- its queries
      abbrev pub FriFailure : (after : C) → TranscriptFailure → Type 0
      FriFailure after failure =
          RoundsFailure shape c commitments witnesses after failure
          ⊎ (RoundsPass shape c commitments witnesses
          × QueriesFailure (rounds_replay m shape.commit_pow_bits c commitments witnesses).state
          final_poly witness after failure)
