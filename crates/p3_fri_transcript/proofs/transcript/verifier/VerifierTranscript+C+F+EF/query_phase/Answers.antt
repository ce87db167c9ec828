use Rattle.std.proofs.Common.{[], refl, sym, ◌∙◌}
use Rattle.p3_challenger_fs.specs.declared.pattern.Hierarchy.TheVariants.{Atomic}
use Rattle.p3_challenger_fs.specs.declared.pattern.Kind.TheVariants.{Challenge}
use Rattle.p3_challenger_fs.specs.declared.pattern.TypeTag.TheVariants.{Bits}
use Rattle.p3_challenger_fs.specs.declared.pattern.Length.TheVariants.{Fixed}
use Rattle.p3_challenger_core.specs.Run.{moves}
use Rattle.p3_fri_transcript.specs.Shapes.{fri_shape}
use Rattle.p3_fri_transcript.proofs.Replays.{shown_queries_are, queries_pass}
use Rattle.p3_fri_pow.proofs.Turns.{next_of, rest_of}
use Rattle.p3_fri_transcript.proofs.TurnLists.{indices_left, after_final_poly}
use Rattle.p3_fri_pow.proofs.Reached.{reaches_same}
use Rattle.p3_fri_transcript.proofs.Indices.{draws_are_indices}
use Rattle.p3_fri_transcript.proofs.Reached.{reaches_tried, reaches_queries}
use Rattle.std.proofs.lemmas.Result.{IfOk-from_err}
use Rattle.p3_fri_transcript.proofs.transcript.verifier.VerifierTranscript+C+F+EF.query_phase.Goals as goal

pub check-requires-clause-next : goal.check-requires-clause-next
unfolding fri_shape
check-requires-clause-next g c =
    let shape = fri_shape c.args.self.now.shape in
    (indices_left shape, after_final_poly g.EF.ExtensionField.DIMENSION shape _ _ c.requires.all_rounds_played c.observe_extensions.ensures.steps)

pub challenge_bits-requires-clause-next : goal.challenge_bits-requires-clause-next
unfolding fri_shape
challenge_bits-requires-clause-next g c =
    let shape = fri_shape c.args.self.now.shape in
    next_of Atomic Challenge (Bits shape.index_bits) (Fixed shape.num_queries) _ []
    (c.in-Ok.ensures.steps (indices_left shape) (after_final_poly g.EF.ExtensionField.DIMENSION shape _ _ c.requires.all_rounds_played c.observe_extensions.ensures.steps))

pub returns-in-Err-Missing-clause-passes : goal.returns-in-Err-Missing-clause-passes
unfolding fri_shape
returns-in-Err-Missing-clause-passes g c = λ known.
    let pass =
    queries_pass (moves g.C.CanObserve.observed g.C.CanObserve.observed g.C.CanSample.sampled
    g.EF.ExtensionField.of_coefficients g.EF.ExtensionField.DIMENSION
    g.C.CanSampleBits.sampled_bits)
    g.EF.ExtensionField.coefficients (fri_shape c.args.self.now.shape)
    c.args.self.now.challenger.now c.observe_extensions.new.challenger c.args.final_poly.now
    c.args.witness c.observe_extensions.ensures.state in (
      (λ none. cc),
      λ held. c.in-Err-Missing.ensures.passes.1 (sym pass ∙ held.pow),
    )

pub returns-in-Err-Wrong-clause-passes : goal.returns-in-Err-Wrong-clause-passes
unfolding fri_shape
returns-in-Err-Wrong-clause-passes g c = λ known.
    let pass =
    queries_pass (moves g.C.CanObserve.observed g.C.CanObserve.observed g.C.CanSample.sampled
    g.EF.ExtensionField.of_coefficients g.EF.ExtensionField.DIMENSION
    g.C.CanSampleBits.sampled_bits)
    g.EF.ExtensionField.coefficients (fri_shape c.args.self.now.shape)
    c.args.self.now.challenger.now c.observe_extensions.new.challenger c.args.final_poly.now
    c.args.witness c.observe_extensions.ensures.state in (
      (λ none. cc),
      λ held. c.in-Err-Wrong.ensures.passes.1 (sym pass ∙ held.pow),
    )

pub returns-clause-passes : goal.returns-clause-passes
unfolding fri_shape
returns-clause-passes g c = λ known.
    let pass =
    queries_pass (moves g.C.CanObserve.observed g.C.CanObserve.observed g.C.CanSample.sampled
    g.EF.ExtensionField.of_coefficients g.EF.ExtensionField.DIMENSION
    g.C.CanSampleBits.sampled_bits)
    g.EF.ExtensionField.coefficients (fri_shape c.args.self.now.shape)
    c.args.self.now.challenger.now c.observe_extensions.new.challenger c.args.final_poly.now
    c.args.witness c.observe_extensions.ensures.state in (
      (λ ok. record {
        coefficient_count = c.if-final_poly-expected.false;
        pow = pass ∙ c.in-Ok.ensures.passes.0 refl;
      }),
      λ held. refl,
    )

pub returns-in-Err-Missing-clause-reached : goal.returns-in-Err-Missing-clause-reached
unfolding fri_shape
returns-in-Err-Missing-clause-reached g c =
    reaches_tried _ g.EF.ExtensionField.coefficients
    (fri_shape c.args.self.now.shape).query_pow_bits c.args.self.now.challenger.now
    c.observe_extensions.new.challenger _ c.args.final_poly.now c.args.witness
    c.observe_extensions.ensures.state c.in-Err-Missing.ensures.state

pub returns-in-Err-Wrong-clause-reached : goal.returns-in-Err-Wrong-clause-reached
unfolding fri_shape
returns-in-Err-Wrong-clause-reached g c =
    reaches_tried _ g.EF.ExtensionField.coefficients
    (fri_shape c.args.self.now.shape).query_pow_bits c.args.self.now.challenger.now
    c.observe_extensions.new.challenger _ c.args.final_poly.now c.args.witness
    c.observe_extensions.ensures.state c.in-Err-Wrong.ensures.state

pub returns-in_err-indices-clause-reached : goal.returns-in_err-indices-clause-reached
unfolding fri_shape
returns-in_err-indices-clause-reached g c =
    reaches_same _ _ c.check.new.challenger _
    (reaches_tried _ g.EF.ExtensionField.coefficients
    (fri_shape c.args.self.now.shape).query_pow_bits c.args.self.now.challenger.now
    c.observe_extensions.new.challenger c.check.new.challenger c.args.final_poly.now c.args.witness
    c.observe_extensions.ensures.state c.in-Ok.ensures.state)
    (sym c.in_err-indices.ensures.unchanged)

pub returns-clause-indices : goal.returns-clause-indices
unfolding fri_shape
returns-clause-indices g c =
    let shape = fri_shape c.args.self.now.shape in
    draws_are_indices (λ s. g.C.CanSampleBits.sampled_bits s shape.index_bits) shape
    (λ s. g.met.C.CanSampleBits.width_law s shape.index_bits c.requires.index_at_most_max)
    c.check.new.challenger _ c.in_ok-indices.ensures.values

pub returns-clause-reached : goal.returns-clause-reached
unfolding fri_shape
returns-clause-reached g c =
    reaches_queries _ g.EF.ExtensionField.coefficients (fri_shape c.args.self.now.shape)
    c.args.self.now.challenger.now c.observe_extensions.new.challenger c.check.new.challenger _
    c.args.final_poly.now c.args.witness c.observe_extensions.ensures.state c.in-Ok.ensures.state
    c.in_ok-indices.ensures.state

pub returns-clause-queries : goal.returns-clause-queries
unfolding fri_shape
returns-clause-queries g c =
    shown_queries_are (moves g.C.CanObserve.observed g.C.CanObserve.observed g.C.CanSample.sampled
    g.EF.ExtensionField.of_coefficients g.EF.ExtensionField.DIMENSION
    g.C.CanSampleBits.sampled_bits)
    g.EF.ExtensionField.coefficients (fri_shape c.args.self.now.shape)
    c.args.self.now.challenger.now c.observe_extensions.new.challenger c.check.new.challenger
    c.challenge_bits.new.challenger _ _ _ c.observe_extensions.ensures.state
    (c.in-Ok.ensures.passes.0 refl) c.in-Ok.ensures.state c.in_ok-indices.ensures.values
    c.in_ok-indices.ensures.state

pub returns-clause-steps : goal.returns-clause-steps
unfolding fri_shape
returns-clause-steps g c =
    let shape = fri_shape c.args.self.now.shape in
    rest_of _ _ [] _
    (c.in-Ok.ensures.steps (indices_left shape) (after_final_poly g.EF.ExtensionField.DIMENSION shape _ _ c.requires.all_rounds_played c.observe_extensions.ensures.steps))
    c.in_ok-indices.ensures.steps

-- where nothing is answered nothing is said of the answer
pub returns-in_err-indices-clause-indices : goal.returns-in_err-indices-clause-indices
returns-in_err-indices-clause-indices g c =
    IfOk-from_err c.from_residual.result _ c.from_residual.ensures.0

pub returns-in_err-indices-clause-queries : goal.returns-in_err-indices-clause-queries
returns-in_err-indices-clause-queries g c =
    IfOk-from_err c.from_residual.result _ c.from_residual.ensures.0
