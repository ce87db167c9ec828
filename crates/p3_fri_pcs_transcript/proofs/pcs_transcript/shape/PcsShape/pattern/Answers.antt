use Rattle.std.proofs.Common.{map, ap, ◌∙◌, codes}
use Rattle.p3_challenger_fs.specs.Pattern.{step_of}
use Rattle.p3_challenger_fs.specs.declared.pattern.Hierarchy.TheVariants.{Begin, End}
use Rattle.p3_fri_pcs_transcript.specs.Shapes.{pcs_shape}
use Rattle.p3_fri_pow.specs.Steps.{challenge_step}
use Rattle.p3_fri_pcs_transcript.specs.Steps.{bracket_step}
use Rattle.p3_fri_pcs_transcript.proofs.PcsSteps.{pcs_pushed}
use Rattle.p3_fri_pow.proofs.Pushed.{pushed}
use Rattle.std.proofs.lemmas.Result.{IfOk-from_err}
use Rattle.p3_fri_pcs_transcript.proofs.pcs_transcript.shape.PcsShape.pattern.Goals as goal

pub returns : goal.returns
unfolding pcs_shape
returns g c =
    let d = g.EF.ExtensionField.DIMENSION in
    c.new.ensures ∙ pcs_pushed d (pcs_shape c.args.self.now) _ _ _ _ _ _
    (ap (map step_of) c.in_ok-steps.ensures.items)
    (rw c.deref-2.ensures.value at c.in_ok-push_claims.ensures)
    c.in_ok-push_pow.ensures
    (pushed _ _ c.algebra.result (challenge_step d (codes "alpha")) c.in_ok-push.ensures.items c.algebra.ensures)
    (pushed _ _ c.marker.result (bracket_step Begin) c.in_ok-push-2.ensures.items c.marker.ensures)
    (pushed _ _ c.marker-2.result (bracket_step End) c.in_ok-push-3.ensures.items c.marker-2.ensures)

-- where nothing is answered nothing is said of the answer
pub returns-in_err-push : goal.returns-in_err-push
returns-in_err-push g c =
    IfOk-from_err c.from_residual-in_err-push.result _ c.from_residual-in_err-push.ensures.0

pub returns-in_err-push-2 : goal.returns-in_err-push-2
returns-in_err-push-2 g c =
    IfOk-from_err c.from_residual-in_err-push-2.result _ c.from_residual-in_err-push-2.ensures.0

pub returns-in_err-push-3 : goal.returns-in_err-push-3
returns-in_err-push-3 g c =
    IfOk-from_err c.from_residual-in_err-push-3.result _ c.from_residual-in_err-push-3.ensures.0

pub returns-in_err-push_pow : goal.returns-in_err-push_pow
returns-in_err-push_pow g c =
    IfOk-from_err c.from_residual-in_err-push_pow.result _ c.from_residual-in_err-push_pow.ensures.0
