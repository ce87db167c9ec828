use Rattle.std.proofs.Common.{ap, Err}
use Rattle.p3_challenger_fs.specs.Turns.{bytes_observed}
use Rattle.p3_challenger_core.specs.Run.{moves}
use Rattle.p3_fri_transcript.specs.Shapes.{fri_shape}
use Rattle.p3_fri_transcript.specs.Steps.{fri_stream}
use Rattle.p3_fri_verifier.proofs.Replays.{why_refused, of_a_step, false_true, same_err}
use Rattle.p3_fri_verifier.proofs.replay.replay.Goals as goal

pub returns-in-Err-clause-exact : goal.returns-in-Err-clause-exact
returns-in-Err-clause-exact g c other =
    let step = of_a_step c.in-Err.refusal c.refused.result c.refused.ensures.seed c.refused.ensures.step
    (λ same. other (ap Err same)) in (
      (λ e. absurd (false_true e)),
      (λ passes. (c.in-Err.ensures.passes (λ e. step.0 (same_err _ _ e)) (λ e. step.1 (same_err _ _ e))).1 (record {
        commitment_count = c.requires.commitments;
        witness_count = c.requires.witnesses;
        coefficient_count = c.requires.final_poly;
        pow = passes;
      })),
    )

pub returns-in-Err-clause-refusal : goal.returns-in-Err-clause-refusal
returns-in-Err-clause-refusal g c =
    let m = moves g.C.CanObserve-1.observed g.C.CanObserve-2.observed g.C.CanSample.sampled
    g.EF.ExtensionField.of_coefficients g.EF.ExtensionField.DIMENSION g.C.CanSampleBits.sampled_bits in
    let shape = fri_shape c.args.shape in
    why_refused m g.EF.ExtensionField.coefficients shape
    (bytes_observed g.F.Field.ops g.C.CanObserve-1.observed c.args.challenger.now (fri_stream g.EF.ExtensionField.DIMENSION shape))
    c.args.commitments.now c.args.commit_witnesses.now c.args.final_poly.now c.args.query_witness
    c.requires.commitments c.requires.witnesses c.requires.final_poly
    c.replay_fri.new.challenger c.in-Err.refusal c.refused.result c.refused.ensures.seed c.refused.ensures.step
    (λ failure is. c.in-Err.ensures.failure failure (ap Err is))
