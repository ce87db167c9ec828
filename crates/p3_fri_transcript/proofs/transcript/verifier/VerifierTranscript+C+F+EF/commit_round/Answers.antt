use Rattle.p3_challenger_fs.specs.declared.pattern.Hierarchy.TheVariants.{Atomic}
use Rattle.p3_challenger_fs.specs.declared.pattern.Kind.TheVariants.{Challenge}
use Rattle.p3_challenger_fs.specs.declared.pattern.TypeTag.TheVariants.{Algebra}
use Rattle.p3_challenger_fs.specs.declared.pattern.Length.TheVariants.{Scalar}
use Rattle.p3_fri_transcript.specs.Shapes.{fri_shape}
use Rattle.p3_fri_pow.proofs.Turns.{next_of, rest_of}
use Rattle.p3_fri_transcript.proofs.TurnLists.{challenge_left, after_commitment}
use Rattle.p3_fri_transcript.proofs.Reached.{reaches_pow, reaches_round}
use Rattle.p3_fri_transcript.proofs.transcript.verifier.VerifierTranscript+C+F+EF.commit_round.Goals as goal

pub check-requires-clause-next : goal.check-requires-clause-next
unfolding fri_shape
check-requires-clause-next g c =
    let d = g.EF.ExtensionField.DIMENSION in
    let shape = fri_shape c.args.self.now.shape in
    let some = c.requires.some_round_left in
    (challenge_left d shape some.0, after_commitment d shape some.0 _ _ some.1 c.observe_opaque.ensures.steps)

pub challenge_extension-requires : goal.challenge_extension-requires
unfolding fri_shape
challenge_extension-requires g c =
    let d = g.EF.ExtensionField.DIMENSION in
    let shape = fri_shape c.args.self.now.shape in
    let some = c.requires.some_round_left in
    record {
      next = next_of Atomic Challenge (Algebra d) Scalar _ _ (c.in-Ok.ensures.steps (challenge_left d shape some.0) (after_commitment d shape some.0 _ _ some.1 c.observe_opaque.ensures.steps));
    }

pub returns-in-Ok-clause-steps : goal.returns-in-Ok-clause-steps
unfolding fri_shape
returns-in-Ok-clause-steps g c = λ n left.
    let d = g.EF.ExtensionField.DIMENSION in
    let shape = fri_shape c.args.self.now.shape in
    rest_of _ _ _ _ (c.in-Ok.ensures.steps (challenge_left d shape n) (after_commitment d shape n _ _ left c.observe_opaque.ensures.steps)) c.challenge_extension.ensures.steps

pub returns-in-Err-clause-reached : goal.returns-in-Err-clause-reached
unfolding fri_shape
returns-in-Err-clause-reached g c =
    reaches_pow _ (fri_shape c.args.self.now.shape).commit_pow_bits c.args.self.now.challenger.now
    c.observe_opaque.new.challenger _ c.args.commitment c.args.witness
    c.observe_opaque.ensures.state c.in-Err.ensures.state

pub returns-in-Ok-clause-reached : goal.returns-in-Ok-clause-reached
unfolding fri_shape
returns-in-Ok-clause-reached g c =
    reaches_round _ (fri_shape c.args.self.now.shape).commit_pow_bits c.args.self.now.challenger.now
    c.observe_opaque.new.challenger c.check.new.challenger _ c.args.commitment c.args.witness
    c.observe_opaque.ensures.state c.in-Ok.ensures.state c.challenge_extension.ensures.state

-- where nothing is answered nothing is said of the answer
