use Rattle.std.proofs.Common.{◌∙◌, get_or, codes}
use Rattle.p3_fri_pow.specs.Steps.{message_step}
use Rattle.p3_fri_pcs_transcript.proofs.PcsSteps.{claim_pushed}
use Rattle.p3_fri_pow.proofs.Pushed.{pushed}
use Rattle.p3_fri_pcs_transcript.proofs.pcs_transcript.description.push_claims_at_points.Goals as goal

pub loop-count-preserved : goal.loop-count-preserved
loop-count-preserved g c =
    let claim = message_step g.EF.ExtensionField.DIMENSION (codes "claimed_evaluations") in
    claim_pushed claim _ _ c.args.counts.now c.loop-count.count-index c.loop-count-test.true (pushed _ _ c.algebra.result (claim (get_or c.args.counts.now c.loop-count.count-index 0)) c.in_ok-push.ensures.items c.algebra.ensures)
    ∙ c.loop-count.invariant
