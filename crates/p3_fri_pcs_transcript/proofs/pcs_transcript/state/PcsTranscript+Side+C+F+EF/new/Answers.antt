use Rattle.std.proofs.Common.{◌∙◌}
use Rattle.p3_fri_pcs_transcript.specs.Shapes.{pcs_shape}
use Rattle.p3_fri_pcs_transcript.proofs.ClaimTurns.{all_claims_left}
use Rattle.std.proofs.lemmas.Result.{IfOk-from_err}
use Rattle.p3_fri_pcs_transcript.proofs.pcs_transcript.state.PcsTranscript+Side+C+F+EF.new.Goals as goal

pub returns-clause-claims : goal.returns-clause-claims
returns-clause-claims g c =
    all_claims_left g.EF.ExtensionField.DIMENSION (pcs_shape c.args.shape) (pcs_shape c.start.result.shape) _
    c.start.ensures.starts.shape (c.start.ensures.steps ∙ c.in_ok-seed.ensures.turns)

-- where nothing is answered nothing is said of the answer
pub returns-in_err-seed-clause-claims : goal.returns-in_err-seed-clause-claims
returns-in_err-seed-clause-claims g c =
    IfOk-from_err c.from_residual.result _ c.from_residual.ensures.0
