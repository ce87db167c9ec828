use Rattle.std.proofs.Common.{◌≤◌, ◌∙◌, sym, ap, arith, subst, inl, length, Err, refl}
use Rattle.p3_challenger_core.specs.Run.{Moves, moves}
use Rattle.p3_fri_transcript.specs.Shapes.{fri_shape}
use Rattle.p3_fri_transcript.specs.Steps.{FriNumbers}
use Rattle.p3_fri_relation.specs.TestRounds.{bound_numbers}
use Rattle.p3_fri_relation.specs.Views.{parameters_of, proof_of}
use Rattle.p3_fri_verifier.specs.Draws.{proof_replay, AreDrawn}
use Rattle.p3_fri_verifier.proofs.Drawn.{same_replay, replay_fault, drawn_from}
use Rattle.p3_fri_verifier.proofs.Replays.{false_true, same_err}
use Rattle.p3_fri_verifier.proofs.draws.draw.Given.{Over}
use Rattle.p3_fri_verifier.proofs.draws.draw.Goals.{After-positions_of-positions}
use Rattle.p3_fri_verifier.proofs.draws.draw.Goals as goal

abbrev moves_of : (g : Over) → Moves g.row.C.Denot g.row.F.Denot g.row.EF.Denot g.row.M-Commitment.Denot
moves_of g = moves g.C.CanObserve-1.observed g.C.CanObserve-2.observed g.C.CanSample.sampled
    g.EF.ExtensionField.of_coefficients g.EF.ExtensionField.DIMENSION g.C.CanSampleBits.sampled_bits

-- what is drawn
drawn : (g : Over) (c : After-positions_of-positions g)
    → AreDrawn (bound_numbers (parameters_of c.args.params.now) c.args.plan.now.log_arities.items
    c.args.plan.now.log_global_max_height c.args.extra_bits) c.args.extra_bits
    (proof_replay (moves_of g) g.EF.ExtensionField.coefficients g.F.Field.ops g.EF.ExtensionField.DIMENSION
    (bound_numbers (parameters_of c.args.params.now) c.args.plan.now.log_arities.items
    c.args.plan.now.log_global_max_height c.args.extra_bits) (proof_of c.args.proof.now) c.args.challenger.now)
    c.in-Ok-replay.replayed.betas.items c.positions_of-positions.result.items c.replay.new.challenger
drawn g c =
    drawn_from (moves_of g) g.EF.ExtensionField.coefficients g.F.Field.ops g.EF.ExtensionField.DIMENSION
    (bound_numbers (parameters_of c.args.params.now) c.args.plan.now.log_arities.items
    c.args.plan.now.log_global_max_height c.args.extra_bits) (proof_of c.args.proof.now) c.args.challenger.now
    (fri_shape c.in-Ok.shape) c.deref.result.now c.deref-2.result.now c.deref-3.result.now c.in-Ok.ensures
    c.deref.ensures.value c.deref-2.ensures.value c.deref-3.ensures.value
    c.in-Ok-replay.ensures.replayed c.positions_of-positions.ensures c.in-Ok-replay.ensures.indices.below

pub shape_of-requires-clause-index_bits_fit : goal.shape_of-requires-clause-index_bits_fit
shape_of-requires-clause-index_bits_fit g c =
    omega (arith, c.requires.index_bits_at_most_max, g.met.C.CanSampleBits.max_law)

pub replay-requires-clause-index_bits_at_most_max : goal.replay-requires-clause-index_bits_at_most_max
replay-requires-clause-index_bits_at_most_max g c =
    subst (λ n. n.index_bits ≤ g.C.CanSampleBits.MAX_SAMPLE_BITS) (sym c.in-Ok.ensures) c.requires.index_bits_at_most_max

pub replay-requires-clause-commit_bits_at_most_max : goal.replay-requires-clause-commit_bits_at_most_max
replay-requires-clause-commit_bits_at_most_max g c =
    subst (λ n. n.commit_pow_bits ≤ g.C.CanSampleBits.MAX_SAMPLE_BITS) (sym c.in-Ok.ensures) c.requires.commit_bits_at_most_max

pub replay-requires-clause-query_bits_at_most_max : goal.replay-requires-clause-query_bits_at_most_max
replay-requires-clause-query_bits_at_most_max g c =
    subst (λ n. n.query_pow_bits ≤ g.C.CanSampleBits.MAX_SAMPLE_BITS) (sym c.in-Ok.ensures) c.requires.query_bits_at_most_max

pub replay-requires-clause-commitments : goal.replay-requires-clause-commitments
replay-requires-clause-commitments g c =
    ap length c.deref.ensures.value ∙ c.requires.counts.commitments
    ∙ ap (λ (n : FriNumbers). length n.log_arities) (sym c.in-Ok.ensures)

pub replay-requires-clause-witnesses : goal.replay-requires-clause-witnesses
replay-requires-clause-witnesses g c =
    ap length c.deref-2.ensures.value ∙ c.requires.counts.commit_witnesses
    ∙ ap (λ (n : FriNumbers). length n.log_arities) (sym c.in-Ok.ensures)

pub replay-requires-clause-final_poly : goal.replay-requires-clause-final_poly
replay-requires-clause-final_poly g c =
    ap length c.deref-3.ensures.value ∙ c.requires.counts.final_poly
    ∙ ap (λ (n : FriNumbers). n.final_poly_len) (sym c.in-Ok.ensures)

pub returns-in-Err-clause-exact : goal.returns-in-Err-clause-exact
returns-in-Err-clause-exact g c other = absurd (other refl)

pub returns-in-Err-clause-refusal : goal.returns-in-Err-clause-refusal
returns-in-Err-clause-refusal g c = inl refl

pub returns-in-Err-replay-clause-exact : goal.returns-in-Err-replay-clause-exact
returns-in-Err-replay-clause-exact g c other = (
  (λ e. absurd (false_true e)),
  (λ passes. (c.in-Err-replay.ensures.exact (λ e. other (ap Err (same_err _ _ e)))).1
      (ap (λ r. r.passes) (same_replay (moves_of g) g.EF.ExtensionField.coefficients g.F.Field.ops g.EF.ExtensionField.DIMENSION
      (bound_numbers (parameters_of c.args.params.now) c.args.plan.now.log_arities.items
      c.args.plan.now.log_global_max_height c.args.extra_bits) (proof_of c.args.proof.now) c.args.challenger.now
      (fri_shape c.in-Ok.shape) c.deref.result.now c.deref-2.result.now c.deref-3.result.now c.in-Ok.ensures
      c.deref.ensures.value c.deref-2.ensures.value c.deref-3.ensures.value) ∙ passes)),
)

pub returns-in-Err-replay-clause-refusal : goal.returns-in-Err-replay-clause-refusal
returns-in-Err-replay-clause-refusal g c =
    replay_fault (moves_of g) g.EF.ExtensionField.coefficients g.F.Field.ops g.EF.ExtensionField.DIMENSION
    (bound_numbers (parameters_of c.args.params.now) c.args.plan.now.log_arities.items
    c.args.plan.now.log_global_max_height c.args.extra_bits) (proof_of c.args.proof.now) c.args.challenger.now
    (fri_shape c.in-Ok.shape) c.deref.result.now c.deref-2.result.now c.deref-3.result.now c.in-Ok.ensures
    c.deref.ensures.value c.deref-2.ensures.value c.deref-3.ensures.value c.in-Err-replay.refusal
    c.in-Err-replay.ensures.refusal

pub returns-clause-exact : goal.returns-clause-exact
returns-clause-exact g c other =
    ((λ e. (drawn g (goal.at.returns-clause-exact g c).After-positions_of-positions).passes), (λ e. refl))

pub returns-clause-drawn : goal.returns-clause-drawn
returns-clause-drawn g c = drawn g (goal.at.returns-clause-drawn g c).After-positions_of-positions
