-- Why a transcript that is replayed with lists of the right lengths is refused.
use Rattle.std.proofs.Common.{◌≡◌, ◌≢◌, ℕ, ◌⊎◌, inl, inr, List, length, Bool, true, false, Ok, Err, refl, ◌∙◌, sym, subst}
use Rattle.std.specs.Prelude.{IsTrue, IfErr, Some, None, Result}
use Rattle.p3_challenger_core.specs.Run.{Moves, Passes}
use Rattle.p3_fri_pow.specs.Counts.{IsWrongCount}
use Rattle.p3_fri_pow.specs.Pow.{IsWrongWitness}
use Rattle.p3_fri_folding.specs.declared.pow_phase.PowPhase.TheVariants.{Batch, CommitPhase, Query}
use Rattle.p3_fri_transcript.specs.declared.transcript.play.Refusal.{Refusal}
use Rattle.p3_fri_transcript.specs.declared.transcript.play.Refusal.TheVariants.{Seed, Step}
use Rattle.p3_fri_transcript.specs.declared.transcript.failure.TranscriptFailure.{TranscriptFailure}
use Rattle.p3_fri_transcript.specs.declared.transcript.failure.TranscriptFailure.TheVariants as Why
use Rattle.p3_fri_transcript.specs.Failures.{FriFailure}
use Rattle.p3_fri_transcript.specs.Replay.{rounds_replay, shown_queries_replay, polynomial_observed}
use Rattle.p3_fri_transcript.specs.Steps.{FriNumbers}
use Rattle.p3_fri_relation.specs.declared.error.FriError.{FriError}
use Rattle.p3_fri_relation.specs.declared.error.FriError.TheVariants.{InvalidPowWitness, OutOfMemory}
use Rattle.p3_fri_relation.specs.Failures.{of_transcript}

not_true : (b : Bool) → (IsTrue b → ⊥) → b ≡ false
not_true true h = absurd (h refl)
not_true false h = refl

right_count : (asked found expected got : ℕ) → found ≡ asked → IsWrongCount asked found expected got → ⊥
right_count asked found expected got e h = h.differ (h.expected_is ∙ sym e ∙ sym h.got_is)

some_same : {F : Type 0} (x y : F) → Some x ≡ Some y → x ≡ y
some_same x y e = cc

pub false_true : false ≡ true → ⊥
false_true e = cc

pub same_err : {X E : Type 0} (a b : E) → ◌≡◌ {A = Result X E} (Err a) (Err b) → a ≡ b
same_err a b e = cc

pub ok_err : {X E : Type 0} (x : X) (e : E) → ◌≡◌ {A = Result X E} (Ok x) (Err e) → ⊥
ok_err x e h = cc

pub refused_as : {X E : Type 0} (P Q : E → Type 0) (r : Result X E) → ((e : E) → P e → Q e) → IfErr r P → IfErr r Q
refused_as P Q (Ok x) h p = p
refused_as P Q (Err e) h p = h e p

some_none : {F : Type 0} (x : F) → Some x ≡ None → ⊥
some_none x e = cc

-- a refusal other than for want of memory is of a step
pub of_a_step : {A B : Type 0} (refusal : Refusal TranscriptFailure) (e : FriError A B)
    → (refusal ≡ Seed → e ≡ OutOfMemory) → ((failure : TranscriptFailure) → refusal ≡ Step failure → e ≡ of_transcript failure)
    → e ≢ OutOfMemory → (refusal ≢ Seed) × (refusal ≢ Step Why.OutOfMemory)
of_a_step refusal e seed step other = ((λ is. other (seed is)), (λ is. other (step Why.OutOfMemory is)))

module _ {C F E Com : Type 0} (m : Moves C F E Com) (coefficients : E → List F) (shape : FriNumbers)
    (seeded : C) (commitments : List Com) (witnesses : List F) (final_poly : List E) (w : F) where
  query_fails : (c : C) → IsWrongWitness m.observe_value m.draw_bits (polynomial_observed m.observe_value coefficients c final_poly) shape.query_pow_bits (Some w)
      → (shown_queries_replay m coefficients shape c final_poly (Some w)).passes ≡ false
  unfolding shown_queries_replay
  query_fails c h = not_true _ (λ passes. h.fails (subst (λ (v : F). Passes m.observe_value m.draw_bits (polynomial_observed m.observe_value coefficients c final_poly) shape.query_pow_bits v) (some_same w h.witness h.is_shown) passes))

  abbrev pub Outcome : {A B : Type 0} → FriError A B → Type 0
  Outcome e =
      let rounds = rounds_replay m shape.commit_pow_bits seeded commitments witnesses in
      (e ≡ OutOfMemory)
      ⊎ ((e ≡ InvalidPowWitness CommitPhase) × (rounds.passes ≡ false))
      ⊎ ((e ≡ InvalidPowWitness Query)
      × ((shown_queries_replay m coefficients shape rounds.state final_poly (Some w)).passes ≡ false))

  module _ (commitment_count : length commitments ≡ length shape.log_arities)
      (witness_count : length witnesses ≡ length shape.log_arities)
      (coefficient_count : length final_poly ≡ shape.final_poly_len) where
    why : {A B : Type 0} (after : C) (failure : TranscriptFailure)
        → FriFailure m coefficients shape seeded commitments witnesses final_poly (Some w) after failure
        → Outcome {A = A} {B = B} (of_transcript failure)
    why after (Why.CommitRoundCount expected got) (inl h) = absurd (right_count _ _ _ _ commitment_count h.0)
    why after (Why.CommitRoundCount expected got) (inr h) = absurd h.1
    why after (Why.CommitPowWitnessCount expected got) (inl h) = absurd (right_count _ _ _ _ witness_count h.0)
    why after (Why.CommitPowWitnessCount expected got) (inr h) = absurd h.1
    why after (Why.FinalPolyLen expected got) (inl h) = absurd h
    why after (Why.FinalPolyLen expected got) (inr h) = absurd (right_count _ _ _ _ coefficient_count h.1.0)
    why after (Why.PowWitness Batch) (inl h) = absurd h
    why after (Why.PowWitness Batch) (inr h) = absurd h.1
    why after (Why.PowWitness CommitPhase) (inl h) = inr (inl (refl, not_true _ h.2))
    why after (Why.PowWitness CommitPhase) (inr h) = absurd h.1
    why after (Why.PowWitness Query) (inl h) = absurd h
    why after (Why.PowWitness Query) (inr h) = inr (inr (refl, query_fails _ h.1.1))
    why after (Why.MissingPowWitness Batch) (inl h) = absurd h
    why after (Why.MissingPowWitness Batch) (inr h) = absurd h.1
    why after (Why.MissingPowWitness CommitPhase) (inl h) = absurd h
    why after (Why.MissingPowWitness CommitPhase) (inr h) = absurd h.1
    why after (Why.MissingPowWitness Query) (inl h) = absurd h
    why after (Why.MissingPowWitness Query) (inr h) = let none = h.1.1.0 in absurd (some_none w none)
    why after Why.OutOfMemory h = inl refl

    -- so it is of the error that a refusal becomes
    pub why_refused : {A B : Type 0} (after : C) (refusal : Refusal TranscriptFailure) (e : FriError A B)
        → (refusal ≡ Seed → e ≡ OutOfMemory) → ((failure : TranscriptFailure) → refusal ≡ Step failure → e ≡ of_transcript failure)
        → ((failure : TranscriptFailure) → refusal ≡ Step failure
        → FriFailure m coefficients shape seeded commitments witnesses final_poly (Some w) after failure)
        → Outcome e
    why_refused after Seed e seed step failed = inl (seed refl)
    why_refused {A} {B} after (Step failure) e seed step failed =
        subst (λ (x : FriError A B). Outcome x) (sym (step failure refl)) (why after failure (failed failure refl))
