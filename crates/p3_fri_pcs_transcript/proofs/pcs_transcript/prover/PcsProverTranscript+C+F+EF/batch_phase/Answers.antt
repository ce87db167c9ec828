use Rattle.p3_challenger_fs.specs.declared.pattern.Hierarchy.TheVariants.{Atomic}
use Rattle.p3_challenger_fs.specs.declared.pattern.Kind.TheVariants.{Challenge}
use Rattle.p3_challenger_fs.specs.declared.pattern.TypeTag.TheVariants.{Algebra}
use Rattle.p3_challenger_fs.specs.declared.pattern.Length.TheVariants.{Scalar}
use Rattle.p3_fri_pcs_transcript.specs.Shapes.{pcs_shape}
use Rattle.p3_fri_pcs_transcript.proofs.ClaimTurns.{alpha_left, after_claims}
use Rattle.p3_fri_pow.proofs.Turns.{next_of, rest_of}
use Rattle.std.proofs.lemmas.Result.{IfOk-from_err}
use Rattle.p3_fri_pcs_transcript.proofs.pcs_transcript.prover.PcsProverTranscript+C+F+EF.batch_phase.Goals as goal

pub grind-requires-clause-next : goal.grind-requires-clause-next
unfolding pcs_shape
grind-requires-clause-next g c =
    let d = g.EF.ExtensionField.DIMENSION in
    (alpha_left d, after_claims d (pcs_shape c.args.self.now.shape) _ c.requires.all_claims_played)

pub challenge_extension-challenge-requires : goal.challenge_extension-challenge-requires
unfolding pcs_shape
challenge_extension-challenge-requires g c =
    let d = g.EF.ExtensionField.DIMENSION in
    record {
      next = next_of Atomic Challenge (Algebra d) Scalar _ _ (c.in_ok-witness.ensures.steps (alpha_left d) (after_claims d (pcs_shape c.args.self.now.shape) _ c.requires.all_claims_played));
    }

pub returns-clause-steps : goal.returns-clause-steps
unfolding pcs_shape
returns-clause-steps g c =
    let d = g.EF.ExtensionField.DIMENSION in
    rest_of _ _ _ _ (c.in_ok-witness.ensures.steps (alpha_left d) (after_claims d (pcs_shape c.args.self.now.shape) _ c.requires.all_claims_played)) c.challenge_extension-challenge.ensures.steps

-- where nothing is answered nothing is said of the answer
pub returns-in_err-witness-clause-batch : goal.returns-in_err-witness-clause-batch
returns-in_err-witness-clause-batch g c =
    IfOk-from_err c.from_residual.result _ c.from_residual.ensures.0

pub returns-in_err-witness-clause-witness : goal.returns-in_err-witness-clause-witness
returns-in_err-witness-clause-witness g c =
    IfOk-from_err c.from_residual.result _ c.from_residual.ensures.0
