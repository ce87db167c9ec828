use Rattle.std.proofs.Common.{[]}
use Rattle.p3_challenger_fs.specs.declared.pattern.Hierarchy.TheVariants.{Atomic}
use Rattle.p3_challenger_fs.specs.declared.pattern.Kind.TheVariants.{Challenge}
use Rattle.p3_challenger_fs.specs.declared.pattern.TypeTag.TheVariants.{Bits}
use Rattle.p3_challenger_fs.specs.declared.pattern.Length.TheVariants.{Fixed}
use Rattle.p3_challenger_core.specs.Run.{moves}
use Rattle.p3_fri_transcript.specs.Shapes.{fri_shape}
use Rattle.p3_fri_transcript.proofs.Replays.{queries_are}
use Rattle.p3_fri_pow.proofs.Turns.{next_of, rest_of}
use Rattle.p3_fri_transcript.proofs.TurnLists.{indices_left, after_final_poly}
use Rattle.std.proofs.Common.{Some, sym}
use Rattle.p3_fri_pow.proofs.Reached.{reaches_same}
use Rattle.p3_fri_transcript.proofs.Indices.{draws_are_indices}
use Rattle.p3_fri_transcript.proofs.Reached.{reaches_polynomial, reaches_tried, reaches_queries}
use Rattle.std.proofs.lemmas.Result.{IfOk-from_err}
use Rattle.p3_fri_transcript.proofs.transcript.prover.ProverTranscript+C+F+EF.query_phase.Goals as goal

pub grind-requires-clause-next : goal.grind-requires-clause-next
unfolding fri_shape
grind-requires-clause-next g c =
    let shape = fri_shape c.args.self.now.shape in
    (indices_left shape, after_final_poly g.EF.ExtensionField.DIMENSION shape _ _ c.requires.all_rounds_played c.observe_extensions.ensures.steps)

pub challenge_bits-requires-clause-next : goal.challenge_bits-requires-clause-next
unfolding fri_shape
challenge_bits-requires-clause-next g c =
    let shape = fri_shape c.args.self.now.shape in
    next_of Atomic Challenge (Bits shape.index_bits) (Fixed shape.num_queries) _ []
    (c.in_ok-witness.ensures.steps (indices_left shape) (after_final_poly g.EF.ExtensionField.DIMENSION shape _ _ c.requires.all_rounds_played c.observe_extensions.ensures.steps))

pub returns-clause-queries : goal.returns-clause-queries
unfolding fri_shape
returns-clause-queries g c =
    queries_are (moves g.C.CanObserve.observed g.C.CanObserve.observed g.C.CanSample.sampled
    g.EF.ExtensionField.of_coefficients g.EF.ExtensionField.DIMENSION
    g.C.CanSampleBits.sampled_bits)
    g.EF.ExtensionField.coefficients (fri_shape c.args.self.now.shape)
    c.args.self.now.challenger.now c.observe_extensions.new.challenger c.grind.new.challenger
    c.challenge_bits.new.challenger _ _ _ c.observe_extensions.ensures.state
    c.in_ok-witness.ensures.passes c.in_ok-witness.ensures.state c.in_ok-indices.ensures.values
    c.in_ok-indices.ensures.state

pub returns-clause-steps : goal.returns-clause-steps
unfolding fri_shape
returns-clause-steps g c =
    let shape = fri_shape c.args.self.now.shape in
    rest_of _ _ [] _
    (c.in_ok-witness.ensures.steps (indices_left shape) (after_final_poly g.EF.ExtensionField.DIMENSION shape _ _ c.requires.all_rounds_played c.observe_extensions.ensures.steps))
    c.in_ok-indices.ensures.steps

pub returns-in_err-witness-clause-reached : goal.returns-in_err-witness-clause-reached
returns-in_err-witness-clause-reached g c =
    reaches_same _ _ c.observe_extensions.new.challenger _
    (reaches_polynomial _ g.EF.ExtensionField.coefficients c.args.self.now.challenger.now
    c.observe_extensions.new.challenger c.args.final_poly.now c.observe_extensions.ensures.state)
    (sym c.in_err-witness.ensures.unchanged)

pub returns-in_err-indices-clause-reached : goal.returns-in_err-indices-clause-reached
unfolding fri_shape
returns-in_err-indices-clause-reached g c =
    reaches_same _ _ c.grind.new.challenger _
    (reaches_tried _ g.EF.ExtensionField.coefficients
    (fri_shape c.args.self.now.shape).query_pow_bits c.args.self.now.challenger.now
    c.observe_extensions.new.challenger c.grind.new.challenger c.args.final_poly.now (Some _)
    c.observe_extensions.ensures.state c.in_ok-witness.ensures.state)
    (sym c.in_err-indices.ensures.unchanged)

pub returns-clause-indices : goal.returns-clause-indices
unfolding fri_shape
returns-clause-indices g c =
    let shape = fri_shape c.args.self.now.shape in
    draws_are_indices (λ s. g.C.CanSampleBits.sampled_bits s shape.index_bits) shape
    (λ s. g.met.C.CanSampleBits.width_law s shape.index_bits c.requires.index_at_most_max)
    c.grind.new.challenger _ c.in_ok-indices.ensures.values

pub returns-clause-reached : goal.returns-clause-reached
unfolding fri_shape
returns-clause-reached g c =
    reaches_queries _ g.EF.ExtensionField.coefficients (fri_shape c.args.self.now.shape)
    c.args.self.now.challenger.now c.observe_extensions.new.challenger c.grind.new.challenger _
    c.args.final_poly.now (Some _) c.observe_extensions.ensures.state
    c.in_ok-witness.ensures.state c.in_ok-indices.ensures.state

-- where nothing is answered nothing is said of the answer
pub returns-in_err-indices-clause-indices : goal.returns-in_err-indices-clause-indices
returns-in_err-indices-clause-indices g c =
    IfOk-from_err c.from_residual-in_err-indices.result _ c.from_residual-in_err-indices.ensures.0

pub returns-in_err-indices-clause-queries : goal.returns-in_err-indices-clause-queries
returns-in_err-indices-clause-queries g c =
    IfOk-from_err c.from_residual-in_err-indices.result _ c.from_residual-in_err-indices.ensures.0

pub returns-in_err-indices-clause-steps : goal.returns-in_err-indices-clause-steps
returns-in_err-indices-clause-steps g c =
    IfOk-from_err c.from_residual-in_err-indices.result _ c.from_residual-in_err-indices.ensures.0

pub returns-in_err-indices-clause-witness : goal.returns-in_err-indices-clause-witness
returns-in_err-indices-clause-witness g c =
    IfOk-from_err c.from_residual-in_err-indices.result _ c.from_residual-in_err-indices.ensures.0

pub returns-in_err-witness-clause-indices : goal.returns-in_err-witness-clause-indices
returns-in_err-witness-clause-indices g c =
    IfOk-from_err c.from_residual.result _ c.from_residual.ensures.0

pub returns-in_err-witness-clause-queries : goal.returns-in_err-witness-clause-queries
returns-in_err-witness-clause-queries g c =
    IfOk-from_err c.from_residual.result _ c.from_residual.ensures.0
