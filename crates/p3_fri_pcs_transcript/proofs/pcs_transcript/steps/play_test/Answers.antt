use Rattle.std.proofs.Common.{Err, ap, rules}
use Rattle.p3_challenger_core.specs.Run.{Moves, moves}
use Rattle.p3_fri_pow.proofs.Reached.{reaches_same}
use Rattle.p3_fri_transcript.specs.Shapes.{fri_shape}
use Rattle.p3_fri_pcs_transcript.proofs.PcsRuns.{ok_not_err}
use Rattle.p3_fri_pcs_transcript.proofs.StepRuns.{reaches_tested, reaches_lent}
use Rattle.p3_fri_pcs_transcript.proofs.pcs_transcript.steps.play_test.Given.{Over}
use Rattle.p3_fri_pcs_transcript.proofs.pcs_transcript.steps.play_test.Goals as goal

abbrev moves_of : (g : Over) → Moves g.row.C.Denot g.row.F.Denot g.row.EF.Denot g.row.Com.Denot
moves_of g =
    moves g.C.CanObserve-1.observed g.C.CanObserve-2.observed g.C.CanSample.sampled
    g.EF.ExtensionField.of_coefficients g.EF.ExtensionField.DIMENSION g.C.CanSampleBits.sampled_bits

pub returns-in-Ok-clause-reached : goal.returns-in-Ok-clause-reached
returns-in-Ok-clause-reached g c =
    reaches_same _ _ _ _
    (reaches_tested (moves_of g) g.F.Field.ops g.EF.ExtensionField.DIMENSION (fri_shape c.args.test) c.args.transcript.now.challenger.now
    c.begin_delegate.result.now c.play_fri-tested.new.challenger c.begin_delegate.ensures.value (c.in-Ok.ensures.absorbed (λ same. ok_not_err same)))
    (search rules)

pub returns-in-Err-clause-reached : goal.returns-in-Err-clause-reached
returns-in-Err-clause-reached g c =
    reaches_lent (moves_of g) g.F.Field.ops g.EF.ExtensionField.DIMENSION (fri_shape c.args.test) c.args.transcript.now.challenger.now
    c.begin_delegate.result.now c.play_fri-tested.new.challenger c.in-Err.refusal c.begin_delegate.ensures.value
    (λ s. c.in-Err.ensures.unchanged (ap Err s)) (λ no. c.in-Err.ensures.absorbed (λ s. no cc))
