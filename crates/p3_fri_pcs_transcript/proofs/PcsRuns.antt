-- What whole runs find, and why they are refused, put together from what single calls did.
use Rattle.std.proofs.Common.{◌≡◌, ◌≢◌, ℕ, List, Result, Ok, Err, true, false, Option, Some, IsSome}
use Rattle.std.proofs.Common.{IsTrue, unwrap_or, sym, ap, ◌∙◌, subst}
use Rattle.std.specs.List.{flat_map}
use Rattle.algebra.specs.Field.{FieldOps}
use Rattle.p3_challenger_core.specs.Run.{Moves, observed_all}
use Rattle.p3_challenger_fs.specs.Turns.{bytes_observed}
use Rattle.p3_fri_folding.specs.declared.error.FriProverError.{FriProverError}
use Rattle.p3_fri_folding.specs.declared.error.FriProverError.TheVariants as Error
use Rattle.p3_fri_folding.specs.declared.pow_phase.PowPhase.TheVariants.{Batch, CommitPhase, Query}
use Rattle.p3_fri_pow.specs.Pow.{found_witness, sent_witness, NonePasses}
use Rattle.p3_fri_pow.proofs.Found.{sent_is}
use Rattle.p3_fri_transcript.specs.declared.transcript.failure.TranscriptFailure.{TranscriptFailure}
use Rattle.p3_fri_transcript.specs.declared.transcript.play.Refusal.{Refusal}
use Rattle.p3_fri_transcript.specs.declared.transcript.play.Refusal.TheVariants.{Seed, Step}
use Rattle.p3_fri_transcript.specs.Failures.{FriFailure}
use Rattle.p3_fri_transcript.specs.Found.{FriFound, PlayRefused}
use Rattle.p3_fri_transcript.specs.Steps.{FriNumbers, fri_stream}
use Rattle.p3_fri_pcs_transcript.specs.declared.pcs_transcript.play.PcsFailure.{PcsFailure}
use Rattle.p3_fri_pcs_transcript.specs.Failures.{TestFailure, PcsRunFailure}
use Rattle.p3_fri_pcs_transcript.specs.Found.{test_begun, PcsFound, PcsPlayRefused}
use Rattle.p3_fri_pcs_transcript.specs.Replay.{BatchReplay, claims_observed, claims_replay}
use Rattle.p3_fri_pcs_transcript.specs.Steps.{PcsNumbers, pcs_stream}

-- a result is one thing alone
pub ok_not_err : {A E P : Type 0} {a : A} {e : E} → Ok a ≡ Err e → P
ok_not_err is = absurd cc

pub step_not_seed : {A E P : Type 0} {e : E} → ◌≡◌ {A = Result A (Refusal E)} (Err (Step e)) (Err Seed) → P
step_not_seed is = absurd cc

pub no_answer : {P : Type 0} → false ≡ true → P
no_answer is = cc

pub same_refusal : {A E : Type 0} {e f : E} → ◌≡◌ {A = Result A E} (Err e) (Err f) → e ≡ f
same_refusal is = cc

pub same_step : {A E : Type 0} {e f : E}
    → ◌≡◌ {A = Result A (Refusal E)} (Err (Step e)) (Err (Step f)) → e ≡ f
same_step is = cc

module _ {C F E Com : Type 0} (m : Moves C F E Com) (coefficients : E → List F) (ops : FieldOps F) (d : ℕ) (shape : PcsNumbers) (test : FriNumbers) (c : C) (values : List E) where
  abbrev pub claimed : C
  claimed = claims_observed m coefficients ops (pcs_stream d shape) c values

  abbrev pub batch_of : Option F → BatchReplay C E
  batch_of witness = claims_replay m coefficients ops shape.batch_pow_bits (pcs_stream d shape) c values witness

  abbrev pub begun_from : C → C
  begun_from lent = bytes_observed ops m.observe_value lent (fri_stream d test)

  -- the state before the proof of work
  pub claimed_is : (started observed : C) → started ≡ bytes_observed ops m.observe_value c (pcs_stream d shape)
      → observed ≡ observed_all m.observe_value started (flat_map coefficients values) → observed ≡ claimed
  claimed_is started observed first second =
      second ∙ ap (λ s. observed_all m.observe_value s (flat_map coefficients values)) first

  -- the witness that is sent before the challenge
  pub batch_found : (solution : C → ℕ → Option F) (batch_witness : F) (observed : C) (found : Option F)
      → observed ≡ claimed → found ≡ found_witness solution observed shape.batch_pow_bits
      → (shape.batch_pow_bits ≢ 0 → IsSome found) → batch_witness ≡ unwrap_or found ops.zero
      → sent_witness ops.zero solution claimed shape.batch_pow_bits ≡ Some batch_witness
  batch_found solution batch_witness observed found is found_is some sent =
      ap (λ s. sent_witness ops.zero solution s shape.batch_pow_bits) (sym is)
      ∙ sent_is ops.zero solution observed shape.batch_pow_bits found found_is some ∙ ap Some (sym sent)

  -- all witnesses
  pub pcs_found : (solution : C → ℕ → Option F) (batch_witness : F) (commitments : List Com) (witnesses : List F) (final_poly : List E) (witness : F)
      (observed lent : C) (found : Option F) → observed ≡ claimed → found ≡ found_witness solution observed shape.batch_pow_bits
      → (shape.batch_pow_bits ≢ 0 → IsSome found) → batch_witness ≡ unwrap_or found ops.zero
      → (batch_of (Some batch_witness)).state ≡ lent
      → FriFound m ops.zero solution coefficients test (begun_from lent) commitments witnesses final_poly witness
      → PcsFound m coefficients ops d shape test c values solution batch_witness commitments witnesses final_poly witness
  pcs_found solution batch_witness commitments witnesses final_poly witness observed lent found is found_is some sent inside tested = record {
    batch = batch_found solution batch_witness observed found is found_is some sent;
    fri = subst (λ s. FriFound m ops.zero solution coefficients test (begun_from s) commitments witnesses final_poly witness) (sym inside) tested;
  }

  module _ (solution : C → ℕ → Option F) (commitments : List Com) (final_poly : List E) where
    abbrev pub Refused : FriProverError → Type 0
    Refused error = PcsPlayRefused m coefficients ops d shape test c values solution commitments final_poly error

    abbrev FoundAs : F → Type 0
    FoundAs witness = sent_witness ops.zero solution claimed shape.batch_pow_bits ≡ Some witness

    abbrev RefusedFrom : C → FriProverError → Type 0
    RefusedFrom begun error = PlayRefused m ops.zero solution coefficients test begun commitments final_poly error

    -- no witness passes before the challenge
    pub batch_refused : (observed : C) (error : FriProverError) → observed ≡ claimed → error ≡ Error.NoPowWitness Batch
        → NonePasses m.observe_value m.draw_bits observed shape.batch_pow_bits → Refused error
    batch_refused observed error is named none =
        subst Refused (sym named) (subst (λ s. NonePasses m.observe_value m.draw_bits s shape.batch_pow_bits) is none)

    -- a refusal of the test, after the witness found, which passes
    of_test : (error : FriProverError) (witness : F) → FoundAs witness → IsTrue (batch_of (Some witness)).passes
        → RefusedFrom (test_begun m coefficients ops d shape test c values (Some witness)) error → Refused error
    of_test (Error.NoPowWitness Batch) witness found passes refused = absurd refused
    of_test (Error.NoPowWitness CommitPhase) witness found passes refused =
        record { witness = witness; found = found; passes = passes; refused = refused }
    of_test (Error.NoPowWitness Query) witness found passes refused =
        record { witness = witness; found = found; passes = passes; refused = refused }
    of_test Error.OutOfMemory witness found passes refused = refused
    of_test (Error.InputHeightTooSmall input final) witness found passes refused = absurd refused
    of_test Error.FinalHeightOverflow witness found passes refused = absurd refused
    of_test (Error.PointInEvaluationDomain round matrix point) witness found passes refused = absurd refused

    pub test_refused : (error : FriProverError) (witness : F) (lent : C)
        → FoundAs witness → IsTrue (batch_of (Some witness)).passes → (batch_of (Some witness)).state ≡ lent
        → RefusedFrom (begun_from lent) error → Refused error
    test_refused error witness lent found passes inside refused =
        of_test error witness found passes
        (subst (λ s. RefusedFrom (begun_from s) error) (sym inside) refused)

  module _ (batch_witness : Option F) (commitments : List Com) (witnesses : List F) (final_poly : List E) (witness : Option F) where
    abbrev pub Failed : C → TranscriptFailure → Type 0
    Failed after named = TestFailure m coefficients ops d shape test c values batch_witness commitments witnesses final_poly witness after named

    -- a failure of the test, after a batch that passes
    pub test_failed : (named : TranscriptFailure) (lent last : C)
        → IsTrue (batch_of batch_witness).passes → (batch_of batch_witness).state ≡ lent
        → FriFailure m coefficients test (begun_from lent) commitments witnesses final_poly witness last named
        → Failed last named
    test_failed named lent last passes inside failed = record {
      passes = passes;
      failure = subst (λ s. FriFailure m coefficients test (begun_from s) commitments witnesses final_poly witness last named) (sym inside) failed;
    }

    -- a failure of the run, and its last state, under other names
    pub run_failed : (failure error : PcsFailure) (last after : C) → failure ≡ error → last ≡ after
        → PcsRunFailure m coefficients ops d shape test c values batch_witness commitments witnesses final_poly witness last failure
        → PcsRunFailure m coefficients ops d shape test c values batch_witness commitments witnesses final_poly witness after error
    run_failed failure error last after is same failed =
        subst (PcsRunFailure m coefficients ops d shape test c values batch_witness commitments witnesses final_poly witness after) is
        (subst (λ s. PcsRunFailure m coefficients ops d shape test c values batch_witness commitments witnesses final_poly witness s failure) same failed)
