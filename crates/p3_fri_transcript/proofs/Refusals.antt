-- Why whole transcripts are refused, and what a prover found, put together from their calls.
use Rattle.std.proofs.Common.{◌≡◌, ◌≢◌, ◌⊎◌, inl, inr, ℕ, ◌+◌, ◌<◌, true, List, ◌++◌, length}
use Rattle.std.proofs.Common.{take, drop, get_or, Option, Some, IsSome, unwrap_or, sym, ap, ◌∙◌}
use Rattle.std.proofs.Common.{subst, arith}
use Rattle.std.proofs.lemmas.List.{length-take, take-append-drop}
use Rattle.p3_challenger_core.specs.Run.{Moves}
use Rattle.p3_fri_folding.specs.declared.error.FriProverError.{FriProverError}
use Rattle.p3_fri_folding.specs.declared.error.FriProverError.TheVariants as Why
use Rattle.p3_fri_folding.specs.declared.pow_phase.PowPhase.TheVariants.{Batch, CommitPhase, Query}
use Rattle.p3_fri_pow.specs.Pow.{found_witness, sent_witness, NonePasses}
use Rattle.p3_fri_pow.proofs.Found.{sent_is}
use Rattle.p3_fri_pow.proofs.Lists.{next_item}
use Rattle.p3_fri_transcript.specs.declared.transcript.failure.TranscriptFailure.{TranscriptFailure}
use Rattle.p3_fri_transcript.specs.Failures.{QueriesFailure, FriFailure}
use Rattle.p3_fri_transcript.specs.Steps.{FriNumbers}
use Rattle.p3_fri_transcript.specs.Replay.{RoundsReplay, rounds_replay, polynomial_observed}
use Rattle.p3_fri_transcript.specs.Found.{RoundsFound, FriFound, RoundNotFound, RoundsRefused}
use Rattle.p3_fri_transcript.specs.Found.{PlayRefused}

module _ {C F E Com : Type 0} (m : Moves C F E Com) where
  -- the round at `i`, at which no witness passes
  pub round_not_found : (zero : F) (solution : C → ℕ → Option F) (bits own : ℕ) (start now : C)
      (commitments : List Com) (found : List F) (betas : List E) (i : ℕ) (commitment : Com)
      → i < length commitments → commitment ≡ get_or commitments i commitment → length found ≡ i
      → rounds_replay m bits start (take i commitments) found
      ≡ record { passes = true; betas = betas; state = now }
      → RoundsFound m zero solution bits start (take i commitments) found
      → own ≡ bits
      → NonePasses m.observe_value m.draw_bits (m.observe_commitment now commitment) own
      → RoundNotFound m zero solution bits start commitments
  round_not_found zero solution bits own start now commitments found betas i commitment some_left
      is_commitment count so_far are_found same none =
      let before = take i commitments in
      let reached : (rounds_replay m bits start before found).state ≡ now =
      ap (λ (r : RoundsReplay _ _). r.state) so_far in
      let P : C → ℕ → Type 0 =
      λ s b. NonePasses m.observe_value m.draw_bits (m.observe_commitment s commitment) b in
      record {
        before = before;
        next = commitment;
        others = drop (i + 1) commitments;
        witnesses = found;
        all =
            sym (take-append-drop i commitments)
            ∙ ap (λ xs. before ++ xs) (next_item commitments i commitment some_left is_commitment);
        count = omega (arith, length-take i commitments, count);
        found = are_found;
        passes = ap (λ (r : RoundsReplay _ _). r.passes) so_far;
        none_passes = subst (λ s. P s bits) (sym reached) (subst (P now) same none);
      }

  module _ (zero : F) (solution : C → ℕ → Option F) (coefficients : E → List F)
      (shape : FriNumbers) (seeded after : C) (commitments : List Com) (final_poly : List E) where
    -- refused rounds refuse the test
    pub rounds_refused : (e : FriProverError)
        → RoundsRefused m zero solution shape.commit_pow_bits seeded commitments e
        → PlayRefused m zero solution coefficients shape seeded commitments final_poly e
    rounds_refused (Why.NoPowWitness CommitPhase) refused = refused
    rounds_refused (Why.NoPowWitness Batch) refused = absurd refused
    rounds_refused (Why.NoPowWitness Query) refused = absurd refused
    rounds_refused (Why.InputHeightTooSmall _ _) refused = absurd refused
    rounds_refused Why.FinalHeightOverflow refused = absurd refused
    rounds_refused Why.OutOfMemory refused = refused
    rounds_refused (Why.PointInEvaluationDomain _ _ _) refused = absurd refused

    module _ (witnesses : List F) (betas : List E)
        (rounds : rounds_replay m shape.commit_pow_bits seeded commitments witnesses
        ≡ record { passes = true; betas = betas; state = after })
        (found : RoundsFound m zero solution shape.commit_pow_bits seeded commitments
        witnesses) where
      reached : after ≡ (rounds_replay m shape.commit_pow_bits seeded commitments witnesses).state
      reached = sym (ap (λ (r : RoundsReplay _ _). r.state) rounds)

      -- and so do refused queries
      pub query_refused : (e : FriProverError) → length witnesses ≡ length commitments
          → (e ≡ Why.NoPowWitness Query) ⊎ (e ≡ Why.OutOfMemory)
          → (e ≡ Why.NoPowWitness Query → NonePasses m.observe_value m.draw_bits
          (polynomial_observed m.observe_value coefficients after final_poly)
          shape.query_pow_bits)
          → PlayRefused m zero solution coefficients shape seeded commitments final_poly e
      query_refused e count (inl is) none =
          let P : FriProverError → Type 0 =
          λ x. PlayRefused m zero solution coefficients shape seeded commitments final_poly x in
          let N : C → Type 0 =
          λ s. NonePasses m.observe_value m.draw_bits
          (polynomial_observed m.observe_value coefficients s final_poly) shape.query_pow_bits in
          subst P (sym is) (record {
            witnesses = witnesses;
            count = count;
            found = found;
            passes = ap (λ (r : RoundsReplay _ _). r.passes) rounds;
            none_passes = subst N reached (none is);
          })
      query_refused e count (inr is) none =
          let P : FriProverError → Type 0 =
          λ x. PlayRefused m zero solution coefficients shape seeded commitments final_poly x in
          subst P (sym is) tt

      -- what a whole test found
      pub fri_found : (w : Option F) (witness : F)
          → w ≡ found_witness solution
          (polynomial_observed m.observe_value coefficients after final_poly) shape.query_pow_bits
          → (shape.query_pow_bits ≢ 0 → IsSome w)
          → witness ≡ unwrap_or w zero
          → FriFound m zero solution coefficients shape seeded commitments witnesses final_poly
          witness
      fri_found w witness is some sent =
          let P : C → Type 0 =
          λ s. sent_witness zero solution
          (polynomial_observed m.observe_value coefficients s final_poly) shape.query_pow_bits
          ≡ Some witness in
          let observed = polynomial_observed m.observe_value coefficients after final_poly in
          record {
            rounds = found;
            query =
                subst P reached
                (sent_is zero solution observed shape.query_pow_bits w is some ∙ ap Some (sym sent));
          }

  module _ (shape : FriNumbers) (start : C) (commitments : List Com) (witnesses : List F) where
    -- and of the queries
    pub queries_failure_is : (coefficients : E → List F) (final_poly : List E) (witness : Option F)
        (before last after : C) (failure e : TranscriptFailure)
        → QueriesFailure m coefficients shape before final_poly witness last failure
        → (rounds_replay m shape.commit_pow_bits start commitments witnesses).state ≡ before
        → failure ≡ e → last ≡ after
        → QueriesFailure m coefficients shape
        (rounds_replay m shape.commit_pow_bits start commitments witnesses).state final_poly
        witness after e
    queries_failure_is coefficients final_poly witness before last after failure e stands reached
        named same =
        let P : C → C → TranscriptFailure → Type 0 =
        λ b s x. QueriesFailure m coefficients shape b final_poly witness s x in
        let all = (rounds_replay m shape.commit_pow_bits start commitments witnesses).state in
        subst (P all after) named
        (subst (λ s. P all s failure) same (subst (λ b. P b last failure) (sym reached) stands))

  -- and of the whole
  pub fri_failure_is : (coefficients : E → List F) (shape : FriNumbers) (start : C)
      (commitments : List Com) (witnesses : List F) (final_poly : List E) (witness : Option F)
      (last after : C) (failure e : TranscriptFailure)
      → FriFailure m coefficients shape start commitments witnesses final_poly witness last failure
      → failure ≡ e → last ≡ after
      → FriFailure m coefficients shape start commitments witnesses final_poly witness after e
  fri_failure_is coefficients shape start commitments witnesses final_poly witness last after
      failure e stands named same =
      let P : C → TranscriptFailure → Type 0 =
      λ s x. FriFailure m coefficients shape start commitments witnesses final_poly witness s x in
      subst (P after) named (subst (λ s. P s failure) same stands)
