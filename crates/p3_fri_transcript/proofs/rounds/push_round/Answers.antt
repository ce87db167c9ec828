use Rattle.p3_fri_transcript.specs.Steps.{commitment_step}
use Rattle.p3_fri_pow.specs.Steps.{challenge_step}
use Rattle.p3_fri_pow.proofs.Pushed.{pushed}
use Rattle.p3_fri_transcript.proofs.StepLists.{round_pushed}
use Rattle.p3_fri_transcript.proofs.rounds.push_round.Goals as goal

pub returns : goal.returns
returns g c =
    let d = g.EF.ExtensionField.DIMENSION in
    round_pushed d c.args.pow_bits _ _ _ _
    (pushed _ _ c.opaque.result commitment_step c.in_ok-push.ensures.items c.opaque.ensures)
    c.in_ok-push_pow.ensures
    (pushed _ _ c.algebra.result (challenge_step d _) c.in_ok-push-2.ensures.items c.algebra.ensures)
