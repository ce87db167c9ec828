use Rattle.p3_challenger_fs.specs.declared.pattern.Hierarchy.TheVariants.{Atomic}
use Rattle.p3_challenger_fs.specs.declared.pattern.Kind.TheVariants.{Challenge}
use Rattle.p3_challenger_fs.specs.declared.pattern.TypeTag.TheVariants.{Algebra}
use Rattle.p3_challenger_fs.specs.declared.pattern.Length.TheVariants.{Scalar}
use Rattle.p3_fri_pcs_transcript.specs.Shapes.{pcs_shape}
use Rattle.p3_fri_pcs_transcript.proofs.ClaimTurns.{alpha_left, after_claims}
use Rattle.p3_fri_pow.proofs.Turns.{next_of, rest_of}
use Rattle.p3_fri_pcs_transcript.proofs.pcs_transcript.verifier.PcsVerifierTranscript+C+F+EF.batch_phase.Goals as goal

pub check-requires-clause-next : goal.check-requires-clause-next
unfolding pcs_shape
check-requires-clause-next g c =
    let d = g.EF.ExtensionField.DIMENSION in
    (alpha_left d, after_claims d (pcs_shape c.args.self.now.shape) _ c.requires.all_claims_played)

pub challenge_extension-requires : goal.challenge_extension-requires
unfolding pcs_shape
challenge_extension-requires g c =
    let d = g.EF.ExtensionField.DIMENSION in
    record {
      next = next_of Atomic Challenge (Algebra d) Scalar _ _ (c.in-Ok.ensures.steps (alpha_left d) (after_claims d (pcs_shape c.args.self.now.shape) _ c.requires.all_claims_played));
    }

pub returns-in-Ok-clause-steps : goal.returns-in-Ok-clause-steps
unfolding pcs_shape
returns-in-Ok-clause-steps g c =
    let d = g.EF.ExtensionField.DIMENSION in
    rest_of _ _ _ _ (c.in-Ok.ensures.steps (alpha_left d) (after_claims d (pcs_shape c.args.self.now.shape) _ c.requires.all_claims_played)) c.challenge_extension.ensures.steps
