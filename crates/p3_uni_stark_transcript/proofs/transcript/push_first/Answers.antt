use Rattle.std.proofs.Common.{◌++◌, ◌∙◌, ap, map, codes}
use Rattle.p3_challenger_fs.specs.Pattern.{step_of}
use Rattle.p3_uni_stark_transcript.specs.Steps.{commitment_step, challenge_step, step_if}
use Rattle.p3_uni_stark_transcript.proofs.Joined.{two_steps}
use Rattle.p3_uni_stark_transcript.proofs.transcript.push_first.Goals as goal

pub returns : goal.returns
returns g c = two_steps step_of c.push_if.new.steps.items c.push.new.self.items
    c.push-2.new.self.items c.commitment_step-2.result c.challenge_step.result
    (map step_of c.args.steps.now.items)
    (step_if c.args.preprocessed (commitment_step (codes "preprocessed")))
    (commitment_step (codes "trace")) (challenge_step g.EF.ExtensionField.DIMENSION (codes "alpha"))
    (c.in_ok-push_if.ensures
    ∙ ap (λ s. map step_of c.args.steps.now.items ++ step_if c.args.preprocessed s)
    c.commitment_step.ensures)
    c.in_ok-push.ensures.items c.in_ok-push-2.ensures.items c.commitment_step-2.ensures
    c.challenge_step.ensures
