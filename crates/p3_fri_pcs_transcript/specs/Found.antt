-- What a prover finds along a PCS transcript, and where it finds nothing.
use Rattle.std.specs.Prelude.{◌≡◌, ℕ, IsTrue, List, Option, Some, ⊤}
use Rattle.algebra.specs.Field.{FieldOps}
use Rattle.p3_challenger_core.specs.Run.{Moves}
use Rattle.p3_challenger_fs.specs.Turns.{bytes_observed}
use Rattle.p3_fri_folding.specs.declared.error.FriProverError.{FriProverError}
use Rattle.p3_fri_folding.specs.declared.error.FriProverError.TheVariants.{NoPowWitness}
use Rattle.p3_fri_folding.specs.declared.error.FriProverError.TheVariants.{OutOfMemory}
use Rattle.p3_fri_folding.specs.declared.pow_phase.PowPhase.TheVariants.{Batch}
use Rattle.p3_fri_pow.specs.Pow.{sent_witness, NonePasses}
use Rattle.p3_fri_transcript.specs.Found.{FriFound, PlayRefused}
use Rattle.p3_fri_transcript.specs.Steps.{FriNumbers, fri_stream}
use Rattle.p3_fri_pcs_transcript.specs.Replay.{claims_observed, claims_replay}
use Rattle.p3_fri_pcs_transcript.specs.Steps.{PcsNumbers, pcs_stream}

module _ {C F E Com : Type 0} (m : Moves C F E Com) (coefficients : E → List F) (ops : FieldOps F)
    (d : ℕ) (shape : PcsNumbers) (test : FriNumbers) (c : C) (values : List E) where
  -- the state in which the test begins, its stream observed
  abbrev pub test_begun : (batch_witness : Option F) → C
  test_begun batch_witness =
      let stream = pcs_stream d shape in
      let bits = shape.batch_pow_bits in
      let batch = claims_replay m coefficients ops bits stream c values batch_witness in
      bytes_observed ops m.observe_value batch.state (fri_stream d test)

  -- each witness is what the challenger's search gives in the state that the run reaches, and zero
  -- at no bits
  pub record PcsFound (solution : C → ℕ → Option F) (batch_witness : F) (commitments : List Com)
      (witnesses : List F) (final_poly : List E) (witness : F) : Type 0 where
    pub batch :
        let observed = claims_observed m coefficients ops (pcs_stream d shape) c values in
        sent_witness ops.zero solution observed shape.batch_pow_bits ≡ Some batch_witness
    pub fri : FriFound m ops.zero solution coefficients test (test_begun (Some batch_witness))
        commitments witnesses final_poly witness

  -- the proof of work passes by the witness found, and then the test is refused
  pub record TestRefused (solution : C → ℕ → Option F) (commitments : List Com)
      (final_poly : List E) (error : FriProverError) : Type 0 where
    pub witness : F
    pub found :
        let observed = claims_observed m coefficients ops (pcs_stream d shape) c values in
        sent_witness ops.zero solution observed shape.batch_pow_bits ≡ Some witness
    pub passes :
        let stream = pcs_stream d shape in
        IsTrue (claims_replay m coefficients ops shape.batch_pow_bits stream c values
        (Some witness)).passes
    pub refused : PlayRefused m ops.zero solution coefficients test (test_begun (Some witness))
        commitments final_poly error

  -- why a prover refuses a run whose seed was absorbed
  abbrev pub PcsPlayRefused : (solution : C → ℕ → Option F) (commitments : List Com)
      (final_poly : List E) → FriProverError → Type 0
  PcsPlayRefused solution commitments final_poly (NoPowWitness Batch) =
      let observed = claims_observed m coefficients ops (pcs_stream d shape) c values in
      NonePasses m.observe_value m.draw_bits observed shape.batch_pow_bits
  PcsPlayRefused solution commitments final_poly OutOfMemory = ⊤
  PcsPlayRefused solution commitments final_poly error =
      TestRefused solution commitments final_poly error
