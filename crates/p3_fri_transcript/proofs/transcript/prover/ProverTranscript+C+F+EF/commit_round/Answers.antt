use Rattle.p3_challenger_fs.specs.declared.pattern.Hierarchy.TheVariants.{Atomic}
use Rattle.p3_challenger_fs.specs.declared.pattern.Kind.TheVariants.{Challenge}
use Rattle.p3_challenger_fs.specs.declared.pattern.TypeTag.TheVariants.{Algebra}
use Rattle.p3_challenger_fs.specs.declared.pattern.Length.TheVariants.{Scalar}
use Rattle.p3_fri_transcript.specs.Shapes.{fri_shape}
use Rattle.p3_fri_pow.proofs.Turns.{next_of, rest_of}
use Rattle.p3_fri_transcript.proofs.TurnLists.{challenge_left, after_commitment}
use Rattle.std.proofs.Common.{sym, ◌∙◌}
use Rattle.p3_fri_pow.proofs.Reached.{reaches_same, reaches_observed}
use Rattle.p3_fri_transcript.proofs.Reached.{reaches_round}
use Rattle.std.proofs.lemmas.Result.{IfOk-from_err}
use Rattle.p3_fri_transcript.proofs.transcript.prover.ProverTranscript+C+F+EF.commit_round.Goals as goal

pub grind-requires-clause-next : goal.grind-requires-clause-next
unfolding fri_shape
grind-requires-clause-next g c =
    let d = g.EF.ExtensionField.DIMENSION in
    let shape = fri_shape c.args.self.now.shape in
    let some = c.requires.some_round_left in
    (challenge_left d shape some.0, after_commitment d shape some.0 _ _ some.1 c.observe_opaque.ensures.steps)

pub challenge_extension-challenge-requires : goal.challenge_extension-challenge-requires
unfolding fri_shape
challenge_extension-challenge-requires g c =
    let d = g.EF.ExtensionField.DIMENSION in
    let shape = fri_shape c.args.self.now.shape in
    let some = c.requires.some_round_left in
    record {
      next = next_of Atomic Challenge (Algebra d) Scalar _ _ (c.in_ok-witness.ensures.steps (challenge_left d shape some.0) (after_commitment d shape some.0 _ _ some.1 c.observe_opaque.ensures.steps));
    }

pub returns-clause-steps : goal.returns-clause-steps
unfolding fri_shape
returns-clause-steps g c = λ n left.
    let d = g.EF.ExtensionField.DIMENSION in
    let shape = fri_shape c.args.self.now.shape in
    rest_of _ _ _ _ (c.in_ok-witness.ensures.steps (challenge_left d shape n) (after_commitment d shape n _ _ left c.observe_opaque.ensures.steps)) c.challenge_extension-challenge.ensures.steps

pub returns-in_err-witness-clause-reached : goal.returns-in_err-witness-clause-reached
returns-in_err-witness-clause-reached g c =
    reaches_same _ _ _ _ (reaches_observed _ c.args.self.now.challenger.now c.args.commitment)
    (sym c.observe_opaque.ensures.state ∙ sym c.in_err-witness.ensures.unchanged)

pub returns-clause-reached : goal.returns-clause-reached
unfolding fri_shape
returns-clause-reached g c =
    reaches_round _ (fri_shape c.args.self.now.shape).commit_pow_bits c.args.self.now.challenger.now
    c.observe_opaque.new.challenger c.grind.new.challenger _ c.args.commitment _
    c.observe_opaque.ensures.state c.in_ok-witness.ensures.state
    c.challenge_extension-challenge.ensures.state

-- where nothing is answered nothing is said of the answer
pub returns-in_err-witness-clause-round : goal.returns-in_err-witness-clause-round
returns-in_err-witness-clause-round g c =
    IfOk-from_err c.from_residual.result _ c.from_residual.ensures.0

pub returns-in_err-witness-clause-steps : goal.returns-in_err-witness-clause-steps
returns-in_err-witness-clause-steps g c =
    IfOk-from_err c.from_residual.result _ c.from_residual.ensures.0
