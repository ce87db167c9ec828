use Rattle.std.proofs.Common.{◌≡◌, Err, sym, ap, subst, rules}
use Rattle.p3_challenger_core.specs.Run.{Moves, moves}
use Rattle.p3_fri_pow.proofs.Reached.{reaches_same}
use Rattle.p3_fri_transcript.specs.declared.transcript.failure.TranscriptFailure.TheVariants.{OutOfMemory}
use Rattle.p3_fri_transcript.specs.declared.transcript.play.Refusal.TheVariants.{Seed, Step}
use Rattle.p3_fri_transcript.specs.Failures.{FriPasses}
use Rattle.p3_fri_transcript.specs.Shapes.{fri_shape}
use Rattle.p3_fri_transcript.specs.Steps.{fri_stream}
use Rattle.p3_fri_pcs_transcript.proofs.PcsRuns.{ok_not_err, no_answer, same_refusal}
use Rattle.p3_fri_pcs_transcript.proofs.StepRuns.{reaches_tested, reaches_lent}
use Rattle.p3_fri_pcs_transcript.proofs.pcs_transcript.steps.replay_test.Given.{Over}
use Rattle.p3_fri_pcs_transcript.proofs.pcs_transcript.steps.replay_test.Goals as goal

abbrev moves_of : (g : Over) → Moves g.row.C.Denot g.row.F.Denot g.row.EF.Denot g.row.Com.Denot
moves_of g =
    moves g.C.CanObserve-1.observed g.C.CanObserve-2.observed g.C.CanSample.sampled
    g.EF.ExtensionField.of_coefficients g.EF.ExtensionField.DIMENSION g.C.CanSampleBits.sampled_bits

pub returns-in-Err-clause-passes : goal.returns-in-Err-clause-passes
returns-in-Err-clause-passes g c = λ remembered.
    let sent = c.args.messages in
    let shape = fri_shape c.args.test in (
      (λ ok. no_answer ok),
      λ held. (c.in-Err.ensures.passes
          (λ same. let is : c.in-Err.refusal ≡ Seed = same_refusal same in remembered (ap Err (c.of_step.ensures.seed is)))
          (λ same. let is : c.in-Err.refusal ≡ Step OutOfMemory = same_refusal same in remembered (ap Err (c.of_step.ensures.step OutOfMemory is)))).1
          (subst (λ s. FriPasses (moves_of g) g.EF.ExtensionField.coefficients shape s sent.commitments.now sent.commit_witnesses.now sent.final_poly.now sent.query_witness
          g.F.Field.ops (fri_stream g.EF.ExtensionField.DIMENSION shape)) (sym c.begin_delegate.ensures.value) held),
    )

pub returns-in-Ok-clause-reached : goal.returns-in-Ok-clause-reached
returns-in-Ok-clause-reached g c =
    reaches_same _ _ _ _
    (reaches_tested (moves_of g) g.F.Field.ops g.EF.ExtensionField.DIMENSION (fri_shape c.args.test) c.args.transcript.now.challenger.now
    c.begin_delegate.result.now c.replay_fri-tested.new.challenger c.begin_delegate.ensures.value (c.in-Ok.ensures.absorbed (λ same. ok_not_err same)))
    (search rules)

pub returns-in-Err-clause-reached : goal.returns-in-Err-clause-reached
returns-in-Err-clause-reached g c =
    reaches_lent (moves_of g) g.F.Field.ops g.EF.ExtensionField.DIMENSION (fri_shape c.args.test) c.args.transcript.now.challenger.now
    c.begin_delegate.result.now c.replay_fri-tested.new.challenger c.in-Err.refusal c.begin_delegate.ensures.value
    (λ s. c.in-Err.ensures.unchanged (ap Err s)) (λ no. c.in-Err.ensures.absorbed (λ s. no cc))
