-- What the transcript around the test did, and what the test answered, put together.
use Rattle.std.proofs.Common.{◌≡◌, ℕ, inl, inr, Bool, true, false, List, Some, refl}
use Rattle.std.proofs.Common.{sym, ap, ◌∙◌, subst}
use Rattle.std.specs.Prelude.{IsTrue}
use Rattle.std.specs.List.{flat_map}
use Rattle.p3_mmcs.specs.declared.openings.CommitmentOpening.{CommitmentOpening}
use Rattle.p3_challenger_core.specs.Run.{observed_all}
use Rattle.p3_challenger_fs.specs.Turns.{bytes_observed}
use Rattle.p3_fri_folding.specs.declared.pow_phase.PowPhase.TheVariants.{Batch}
use Rattle.p3_fri_pcs_transcript.specs.Steps.{PcsNumbers, pcs_stream}
use Rattle.p3_fri_pcs_transcript.specs.Replay.{BatchReplay, shown_batch_replay}
use Rattle.p3_fri_pcs_transcript.specs.declared.pcs_transcript.failure.PcsTranscriptFailure.{PcsTranscriptFailure}
use Rattle.p3_fri_pcs_transcript.specs.declared.pcs_transcript.failure.PcsTranscriptFailure.TheVariants.{ClaimedEvaluationCount}
use Rattle.p3_fri_pcs_transcript.specs.declared.pcs_transcript.failure.PcsTranscriptFailure.TheVariants.{PowWitness}
use Rattle.p3_fri_pcs_transcript.specs.declared.pcs_transcript.failure.PcsTranscriptFailure.TheVariants.{MissingPowWitness}
use Rattle.p3_fri_pcs_transcript.specs.declared.pcs_transcript.failure.PcsTranscriptFailure.TheVariants.{OutOfMemory as no_memory}
use Rattle.p3_fri_pcs_transcript.specs.Counts.{counts_of_claims}
use Rattle.p3_fri_pcs_transcript.specs.Failures.{BatchFailure}
use Rattle.p3_fri_pcs_transcript.proofs.PcsReplays.{batch_joined}
use Rattle.p3_fri_relation.specs.declared.error.FriError.{FriError}
use Rattle.p3_fri_relation.specs.declared.error.FriError.TheVariants.{InvalidPowWitness}
use Rattle.p3_fri_relation.specs.Setting.{Setting, Parameters, CommitmentClaim, Proof}
use Rattle.p3_fri_relation.specs.Acceptance.{Accepts, FriAccepts, pcs_numbers}
use Rattle.p3_fri_relation.specs.Acceptance.{values_claimed, batch_replayed, test_replay}
use Rattle.p3_fri_relation.specs.Acceptance.{fri_numbers}
use Rattle.p3_fri_relation.specs.Failures.{of_pcs_transcript}
use Rattle.p3_fri_relation.specs.Views.{claims_of}
use Rattle.p3_fri_relation.proofs.WholeReplays.{counts-of_claims}
use Rattle.p3_fri_relation.specs.Faults.{Stands, StandsInScheme}
use Rattle.p3_fri_opening_verifier.specs.Ends.{last_state}

module _ {F E C Com Path InCom InPath : Type 0} (s : Setting F E C Com Path InCom InPath)
    (p : Parameters)
    (claims : List (CommitmentClaim E InCom)) (proof : Proof F E Com Path InPath) (c : C) where
  abbrev batch : BatchReplay C E
  batch = batch_replayed s p claims proof c

  -- the transcript has absorbed the stream of these numbers, and these values
  pub record Absorbed (numbers : PcsNumbers) (values : List E) (started claimed : C) : Type 0 where
    pub numbers_are : numbers ≡ pcs_numbers p claims
    pub values_are : values ≡ values_claimed claims
    pub begun : started ≡ bytes_observed s.fields.base s.moves.observe_value c
        (pcs_stream s.fields.degree numbers)
    pub all_observed : claimed ≡ observed_all s.moves.observe_value started
        (flat_map s.fields.coefficients values)

  -- then the proof of work and the challenge are those of the relation
  pub batch_is : (numbers : PcsNumbers) (values : List E) (started claimed : C)
      → Absorbed numbers values started claimed
      → shown_batch_replay s.moves numbers.batch_pow_bits claimed (Some proof.batch_witness) ≡ batch
  batch_is numbers values started claimed a =
      ap (λ (n : PcsNumbers). shown_batch_replay s.moves n.batch_pow_bits claimed
      (Some proof.batch_witness)) a.numbers_are
      ∙ sym (batch_joined s.moves s.fields.coefficients s.fields.base s.fields.degree
      (pcs_numbers p claims) (fri_numbers p claims s.extra_bits)
      c (values_claimed claims) (Some proof.batch_witness) proof.commitments proof.commit_witnesses
      proof.final_poly (Some proof.query_witness)
      started claimed
      (a.begun ∙ ap (λ n. bytes_observed s.fields.base s.moves.observe_value c
      (pcs_stream s.fields.degree n)) a.numbers_are)
      (a.all_observed ∙ ap (λ vs. observed_all s.moves.observe_value started
      (flat_map s.fields.coefficients vs)) a.values_are))

  -- where the proof of work passes, the challenge is drawn, and the challenger lent in the state then
  pub batch_passed : (numbers : PcsNumbers) (values : List E) (started claimed after lent : C)
      (alpha : E)
      → Absorbed numbers values started claimed
      → shown_batch_replay s.moves numbers.batch_pow_bits claimed
      (Some proof.batch_witness) ≡ record { passes = true; alpha = alpha; state = after }
      → lent ≡ after → batch ≡ record { passes = true; alpha = alpha; state = lent }
  batch_passed numbers values started claimed after lent alpha a drawn given =
      sym (batch_is numbers values started claimed a) ∙ drawn
      ∙ ap (λ x. record { passes = true; alpha = alpha; state = x }) (sym given)

  module _ (alpha : E) (lent : C) (drawn : batch ≡ record {
    passes = true;
    alpha = alpha;
    state =
        lent;
  }) where
    pub accepted : FriAccepts s p claims proof lent alpha → Accepts s p claims proof c
    accepted a = record {
      passes = ap (λ (b : BatchReplay C E). b.passes) drawn;
      accepts = subst (λ (b : BatchReplay C E). FriAccepts s p claims proof b.state b.alpha)
          (sym drawn) a;
    }

    pub accepted_inside : Accepts s p claims proof c → FriAccepts s p claims proof lent alpha
    accepted_inside a = subst (λ (b : BatchReplay C E). FriAccepts s p claims proof b.state
        b.alpha) drawn a.accepts

    pub ends : (last found : C) → last ≡ (test_replay s p claims proof lent).state → found ≡ last
        → found ≡ last_state s p claims proof c
    ends last found is same = same ∙ is ∙ ap (λ (b : BatchReplay C E).
        (test_replay s p claims proof b.state).state) (sym drawn)

    pub stands_inside : {A B : Type 0} (e : FriError A B) → Stands s p claims proof lent alpha e
        → StandsInScheme s p claims proof c e
    stands_inside e h = inr (subst (λ (b : BatchReplay C E). Stands s p claims proof b.state
        b.alpha e) (sym drawn) h)

  -- where it doesn't, nothing is accepted
  pub not_accepted : (shown : BatchReplay C E) → shown ≡ batch → (IsTrue shown.passes → ⊥)
      → ¬ Accepts s p claims proof c
  not_accepted shown is fails a = fails (ap (λ (b : BatchReplay C E). b.passes) is ∙ a.passes)

  -- and the refusal says so
  pub batch_stands : {A B : Type 0} (numbers : PcsNumbers) (claimed : C)
      (failure : PcsTranscriptFailure) (e : FriError A B)
      → BatchFailure s.moves numbers.batch_pow_bits claimed (Some proof.batch_witness) failure
      → (shown : BatchReplay C E) → shown ≡ batch → (IsTrue shown.passes → ⊥)
      → e ≡ of_pcs_transcript failure → StandsInScheme s p claims proof c e
  batch_stands numbers claimed failure e why shown is fails same =
      inl (
        same ∙ named failure why,
        not_true batch.passes (λ passes. fails (ap (λ
            (b : BatchReplay C E). b.passes) is ∙ passes)),
      )
    where
      named : {A B : Type 0} (failure : PcsTranscriptFailure)
          → BatchFailure s.moves numbers.batch_pow_bits claimed (Some proof.batch_witness) failure
          → of_pcs_transcript {A = A} {B = B} failure ≡ InvalidPowWitness Batch
      named (PowWitness bits) why = refl
      named (MissingPowWitness bits) why = refl
      named (ClaimedEvaluationCount opening expected got) why = absurd why
      named no_memory why = absurd why

      not_true : (b : Bool) → (b ≡ true → ⊥) → b ≡ false
      not_true true n = absurd (n refl)
      not_true false n = refl

-- what the transcript is told of the claims
module _ {E InCom Domain : Type 0} (log_size : Domain
    → ℕ) (p : Parameters) (claims : List (CommitmentOpening E InCom Domain)) where
  with_counts : List (List (List ℕ)) → PcsNumbers
  with_counts counts = record { counts = counts; batch_pow_bits = p.batch_pow_bits }

  pub numbers_are : (numbers : PcsNumbers) → numbers ≡ record {
    counts = counts_of_claims claims;
    batch_pow_bits = p.batch_pow_bits;
  }
      → numbers ≡ pcs_numbers p (claims_of log_size claims)
  unfolding with_counts
  numbers_are numbers is = is ∙ ap with_counts (sym (counts-of_claims log_size p claims))
