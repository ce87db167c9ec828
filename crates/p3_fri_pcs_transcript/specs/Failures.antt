-- When a verifier's transcript passes, and why it refuses.
use Rattle.std.specs.Prelude.{◌≡◌, ◌≤◌, ℕ, IsTrue, List, length, Option}
use Rattle.algebra.specs.Field.{FieldOps}
use Rattle.p3_challenger_core.specs.Run.{Moves}
use Rattle.p3_fri_pow.specs.Pow.{IsMissing, IsWrongWitness}
use Rattle.p3_fri_transcript.specs.declared.transcript.failure.TranscriptFailure.{TranscriptFailure}
use Rattle.p3_fri_transcript.specs.Failures.{FriFailure}
use Rattle.p3_fri_transcript.specs.Steps.{FriNumbers}
use Rattle.p3_fri_pcs_transcript.specs.declared.pcs_transcript.failure.PcsTranscriptFailure as Why
use Rattle.p3_fri_pcs_transcript.specs.declared.pcs_transcript.play.PcsFailure.{PcsFailure}
use Rattle.p3_fri_pcs_transcript.specs.declared.pcs_transcript.play.PcsFailure.TheVariants as Of
use Rattle.p3_fri_pcs_transcript.specs.Found.{test_begun}
use Rattle.p3_fri_pcs_transcript.specs.Replay.{claims_observed, claims_replay, pcs_replay}
use Rattle.p3_fri_pcs_transcript.specs.Steps.{PcsNumbers, pcs_stream}

-- each width in bits is at most the challenger's greatest
pub record WidthsWithin (max : ℕ) (shape : PcsNumbers) (test : FriNumbers) : Type 0 where
  pub batch : shape.batch_pow_bits ≤ max
  pub commit : test.commit_pow_bits ≤ max
  pub query : test.query_pow_bits ≤ max
  pub index : test.index_bits ≤ max

module _ {C F E Com : Type 0} (m : Moves C F E Com) where
  -- why the proof of work is refused in the state `c`: no witness is shown, or one that doesn't
  -- pass
  abbrev pub BatchFailure : (bits : ℕ) (c : C) (witness : Option F) → Why.PcsTranscriptFailure
      → Type 0
  BatchFailure bits c witness (Why.TheVariants.PowWitness named) =
      (named ≡ bits) × IsWrongWitness m.observe_value m.draw_bits c bits witness
  BatchFailure bits c witness (Why.TheVariants.MissingPowWitness named) =
      (named ≡ bits) × IsMissing bits witness
  BatchFailure bits c witness _ = ⊥

  module _ (coefficients : E → List F) (ops : FieldOps F) (d : ℕ) (shape : PcsNumbers)
      (test : FriNumbers) (c : C) (values : List E) (batch_witness : Option F)
      (commitments : List Com) (witnesses : List F) (final_poly : List E) (witness : Option F)
    where
      -- the test's counts are as described, and each proof of work passes
      pub record PcsPasses : Type 0 where
        pub commitment_count : length commitments ≡ length test.log_arities
        pub witness_count : length witnesses ≡ length test.log_arities
        pub coefficient_count : length final_poly ≡ test.final_poly_len
        pub pow : IsTrue (pcs_replay m coefficients ops d shape test c values batch_witness
            commitments witnesses final_poly witness).passes

      -- the proof of work passes, and then the test is refused
      pub record TestFailure (after : C) (named : TranscriptFailure) : Type 0 where
        pub passes :
            let stream = pcs_stream d shape in
            IsTrue (claims_replay m coefficients ops shape.batch_pow_bits stream c values
            batch_witness).passes
        pub failure : FriFailure m coefficients test
            (test_begun m coefficients ops d shape test c values batch_witness) commitments
            witnesses final_poly witness after named

      -- why a run is refused whose seed was absorbed and whose claims have the described counts
      abbrev pub PcsRunFailure : (after : C) → PcsFailure → Type 0
      PcsRunFailure after (Of.Pcs failure) =
          let observed = claims_observed m coefficients ops (pcs_stream d shape) c values in
          BatchFailure shape.batch_pow_bits observed batch_witness failure
      PcsRunFailure after (Of.Fri failure) = TestFailure after failure
