use Rattle.std.proofs.Common.{◌≡◌, Err, refl, sym, ap, subst}
use Rattle.p3_challenger_core.specs.Run.{Moves, moves}
use Rattle.p3_fri_pow.proofs.Reached.{reaches_same, reaches_shown}
use Rattle.p3_fri_transcript.specs.declared.transcript.failure.TranscriptFailure.TheVariants.{OutOfMemory}
use Rattle.p3_fri_transcript.specs.Shapes.{fri_shape}
use Rattle.p3_fri_pcs_transcript.specs.declared.pcs_transcript.play.PcsFailure.TheVariants.{Fri}
use Rattle.p3_fri_pcs_transcript.specs.Counts.{all_claimed}
use Rattle.p3_fri_pcs_transcript.specs.Failures.{BatchFailure}
use Rattle.p3_fri_pcs_transcript.specs.Replay.{BatchReplay, PcsReplay}
use Rattle.p3_fri_pcs_transcript.specs.Shapes.{pcs_shape}
use Rattle.p3_fri_pcs_transcript.proofs.PcsReplays.{batch_lent, pcs_joined, batch_passes, test_passes}
use Rattle.p3_fri_pcs_transcript.proofs.PcsRuns.{ok_not_err, no_answer, same_refusal, claimed_is, test_failed}
use Rattle.p3_fri_pcs_transcript.proofs.StepRuns.{reaches_claimed, reaches_inside}
use Rattle.p3_fri_pcs_transcript.proofs.pcs_transcript.steps.replay_steps.Given.{Over}
use Rattle.p3_fri_pcs_transcript.proofs.pcs_transcript.steps.replay_steps.Goals as goal

abbrev moves_of : (g : Over) → Moves g.row.C.Denot g.row.F.Denot g.row.EF.Denot g.row.Com.Denot
moves_of g =
    moves g.C.CanObserve-1.observed g.C.CanObserve-2.observed g.C.CanSample.sampled
    g.EF.ExtensionField.of_coefficients g.EF.ExtensionField.DIMENSION g.C.CanSampleBits.sampled_bits

pub returns-in-Err : goal.returns-in-Err
returns-in-Err g c = absurd (c.in-Err.ensures.whole c.requires.described)

pub batch_phase-requires-clause-all_claims_played : goal.batch_phase-requires-clause-all_claims_played
batch_phase-requires-clause-all_claims_played g c = c.in-Ok.ensures.whole c.requires.described

pub replay_test-requires-clause-widths : goal.replay_test-requires-clause-widths
replay_test-requires-clause-widths g c = rw (c.in-Ok-batch_phase.ensures.kept.shape, c.in-Ok.ensures.kept.shape) c.requires.widths

pub returns-in-Err-batch_phase-clause-passes : goal.returns-in-Err-batch_phase-clause-passes
returns-in-Err-batch_phase-clause-passes g c = λ before seeded remembered.
    let sent = c.args.messages in (
      (λ ok. no_answer ok),
      λ held. (rw c.in-Ok.ensures.kept.shape at c.in-Err-batch_phase.ensures.passes).1
          (batch_passes (moves_of g) g.EF.ExtensionField.coefficients g.F.Field.ops g.EF.ExtensionField.DIMENSION (pcs_shape c.args.transcript.now.shape) (fri_shape c.args.test)
          before (all_claimed c.args.claims.now) c.args.batch_witness sent.commitments.now sent.commit_witnesses.now sent.final_poly.now sent.query_witness
          c.args.transcript.now.challenger.now c.claimed_openings.new.self.challenger.now seeded c.in-Ok.ensures.state held.pow),
    )

pub returns-in-Err-batch_phase-clause-failure : goal.returns-in-Err-batch_phase-clause-failure
returns-in-Err-batch_phase-clause-failure g c = λ before seeded.
    let shape = pcs_shape c.args.transcript.now.shape in
    let is = claimed_is (moves_of g) g.EF.ExtensionField.coefficients g.F.Field.ops g.EF.ExtensionField.DIMENSION shape (fri_shape c.args.test) before (all_claimed c.args.claims.now)
    c.args.transcript.now.challenger.now c.claimed_openings.new.self.challenger.now seeded c.in-Ok.ensures.state in
    subst (λ s. BatchFailure (moves_of g) shape.batch_pow_bits s c.args.batch_witness c.in-Err-batch_phase.failure) is
    (rw c.in-Ok.ensures.kept.shape at c.in-Err-batch_phase.ensures.failure)

pub returns-in-Err-batch_phase-clause-reached : goal.returns-in-Err-batch_phase-clause-reached
returns-in-Err-batch_phase-clause-reached g c =
    reaches_claimed (moves_of g) g.EF.ExtensionField.coefficients (all_claimed c.args.claims.now) c.args.transcript.now.challenger.now c.claimed_openings.new.self.challenger.now _
    c.in-Ok.ensures.state
    (reaches_same _ _ _ _ (reaches_shown (moves_of g) c.claimed_openings.new.self.challenger.now (pcs_shape c.claimed_openings.new.self.shape).batch_pow_bits c.args.batch_witness)
    (sym c.in-Err-batch_phase.ensures.refused))

pub returns-in-Ok-replay_test-clause-replay : goal.returns-in-Ok-replay_test-clause-replay
returns-in-Ok-replay_test-clause-replay g c = λ before seeded.
    let sent = c.args.messages in
    pcs_joined (moves_of g) g.EF.ExtensionField.coefficients g.F.Field.ops g.EF.ExtensionField.DIMENSION (pcs_shape c.args.transcript.now.shape) (fri_shape c.args.test)
    before (all_claimed c.args.claims.now) c.args.batch_witness sent.commitments.now sent.commit_witnesses.now sent.final_poly.now sent.query_witness
    c.args.transcript.now.challenger.now c.claimed_openings.new.self.challenger.now c.batch_phase.new.self.challenger.now c.batch_phase.new.self.challenger.now
    c.replay_test.new.transcript.challenger.now _ _ _
    seeded c.in-Ok.ensures.state (rw c.in-Ok.ensures.kept.shape at c.in-Ok-batch_phase.ensures.batch) refl c.in-Ok-replay_test.ensures.replay

pub returns-in-Ok-replay_test-clause-passes : goal.returns-in-Ok-replay_test-clause-passes
returns-in-Ok-replay_test-clause-passes g c = λ before seeded remembered.
    let counts = (c.in-Ok-replay_test.ensures.passes (λ same. ok_not_err same)).0 refl in (
      (λ ok. record {
        commitment_count = counts.commitment_count;
        witness_count = counts.witness_count;
        coefficient_count = counts.coefficient_count;
        pow = ap (λ (r : PcsReplay _ _). r.passes) (returns-in-Ok-replay_test-clause-replay g c before seeded);
      }),
      λ held. refl,
    )

pub returns-in-Ok-replay_test-clause-reached : goal.returns-in-Ok-replay_test-clause-reached
returns-in-Ok-replay_test-clause-reached g c =
    reaches_inside (moves_of g) g.EF.ExtensionField.coefficients (all_claimed c.args.claims.now) c.args.transcript.now.challenger.now c.claimed_openings.new.self.challenger.now
    (pcs_shape c.claimed_openings.new.self.shape).batch_pow_bits c.batch_phase.new.self.challenger.now _ _ c.args.batch_witness
    c.in-Ok.ensures.state c.in-Ok-batch_phase.ensures.batch c.in-Ok-replay_test.ensures.reached

pub returns-in-Err-replay_test-clause-passes : goal.returns-in-Err-replay_test-clause-passes
returns-in-Err-replay_test-clause-passes g c = λ before seeded remembered.
    let sent = c.args.messages in (
      (λ ok. no_answer ok),
      λ held. (c.in-Err-replay_test.ensures.passes
          (λ same. let is : c.in-Err-replay_test.failure ≡ OutOfMemory = same_refusal same in remembered (ap (λ f. Err (Fri f)) is))).1
          (record {
            commitment_count = held.commitment_count;
            witness_count = held.witness_count;
            coefficient_count = held.coefficient_count;
            pow = test_passes (moves_of g) g.EF.ExtensionField.coefficients g.F.Field.ops g.EF.ExtensionField.DIMENSION (pcs_shape c.args.transcript.now.shape) (fri_shape c.args.test)
                before (all_claimed c.args.claims.now) c.args.batch_witness sent.commitments.now sent.commit_witnesses.now sent.final_poly.now sent.query_witness
                c.args.transcript.now.challenger.now c.claimed_openings.new.self.challenger.now c.batch_phase.new.self.challenger.now c.batch_phase.new.self.challenger.now _
                seeded c.in-Ok.ensures.state (rw c.in-Ok.ensures.kept.shape at c.in-Ok-batch_phase.ensures.batch) refl held.pow;
          }),
    )

pub returns-in-Err-replay_test-clause-failure : goal.returns-in-Err-replay_test-clause-failure
returns-in-Err-replay_test-clause-failure g c = λ before seeded.
    let ops = g.F.Field.ops in
    let shape = pcs_shape c.args.transcript.now.shape in
    let values = all_claimed c.args.claims.now in
    let inside = c.batch_phase.new.self.challenger.now in
    let sent = c.args.messages in
    let batch = batch_lent (moves_of g) g.EF.ExtensionField.coefficients ops g.EF.ExtensionField.DIMENSION shape (fri_shape c.args.test) before values c.args.batch_witness sent.commitments.now sent.commit_witnesses.now sent.final_poly.now sent.query_witness
    c.args.transcript.now.challenger.now c.claimed_openings.new.self.challenger.now inside inside _ seeded c.in-Ok.ensures.state
    (rw c.in-Ok.ensures.kept.shape at c.in-Ok-batch_phase.ensures.batch) refl in
    test_failed (moves_of g) g.EF.ExtensionField.coefficients ops g.EF.ExtensionField.DIMENSION shape (fri_shape c.args.test) before values c.args.batch_witness sent.commitments.now sent.commit_witnesses.now sent.final_poly.now sent.query_witness
    c.in-Err-replay_test.failure inside c.replay_test.new.transcript.challenger.now
    (ap (λ (r : BatchReplay _ _). r.passes) batch) (ap (λ (r : BatchReplay _ _). r.state) batch) c.in-Err-replay_test.ensures.failure

pub returns-in-Err-replay_test-clause-reached : goal.returns-in-Err-replay_test-clause-reached
returns-in-Err-replay_test-clause-reached g c =
    reaches_inside (moves_of g) g.EF.ExtensionField.coefficients (all_claimed c.args.claims.now) c.args.transcript.now.challenger.now c.claimed_openings.new.self.challenger.now
    (pcs_shape c.claimed_openings.new.self.shape).batch_pow_bits c.batch_phase.new.self.challenger.now _ _ c.args.batch_witness
    c.in-Ok.ensures.state c.in-Ok-batch_phase.ensures.batch c.in-Err-replay_test.ensures.reached

-- where nothing is answered nothing is said of the answer
pub returns-in-Err-replay_test-clause-betas : goal.returns-in-Err-replay_test-clause-betas
returns-in-Err-replay_test-clause-betas g c = tt

pub returns-in-Err-replay_test-clause-indices : goal.returns-in-Err-replay_test-clause-indices
returns-in-Err-replay_test-clause-indices g c = tt

pub returns-in-Err-replay_test-clause-steps : goal.returns-in-Err-replay_test-clause-steps
returns-in-Err-replay_test-clause-steps g c = tt
