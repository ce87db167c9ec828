use Rattle.std.proofs.Common.{map, refl, ap, ◌∙◌, arith}
use Rattle.p3_challenger_fs.specs.Pattern.{step_of}
use Rattle.p3_fri_transcript.specs.Shapes.{fri_shape}
use Rattle.p3_fri_pow.proofs.Pushed.{pushed}
use Rattle.p3_fri_transcript.proofs.StepLists.{fri_pushed}
use Rattle.std.proofs.lemmas.Result.{IfOk-from_err}
use Rattle.p3_fri_transcript.proofs.transcript.shape.FriShape.pattern.Goals as goal

pub returns : goal.returns
unfolding fri_shape
returns g c =
    let d = g.EF.ExtensionField.DIMENSION in
    let shape = c.args.self.now in
    c.new.ensures ∙ fri_pushed d (fri_shape shape) c.len-rounds.result _ _ _ _ _ _ _
    (ap (map step_of) c.in_ok-steps.ensures.items)
    c.in_ok-push_rounds.ensures
    (omega (arith, shape.log_arities.ok.0, c.len-rounds.ensures))
    (pushed _ _ c.algebra.result _ c.in_ok-push.ensures.items refl)
    c.in_ok-push_pow.ensures
    (pushed _ _ c.bits.result _ c.in_ok-push-2.ensures.items refl)
    c.algebra.ensures
    c.bits.ensures

-- where nothing is answered nothing is said of the answer
pub returns-in_err-push-2 : goal.returns-in_err-push-2
returns-in_err-push-2 g c =
    IfOk-from_err c.from_residual-in_err-push-2.result _ c.from_residual-in_err-push-2.ensures.0
