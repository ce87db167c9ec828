use Rattle.std.proofs.Common.{rules, ◌∙◌, sym, ap, subst, length}
use Rattle.algebra.specs.Nested.{lists}
use Rattle.p3_challenger_core.specs.Run.{moves}
use Rattle.p3_challenger_fs.specs.Separator.{seed_bytes}
use Rattle.p3_challenger_fs.specs.Turns.{bytes_observed}
use Rattle.p3_fri_transcript.specs.Shapes.{fri_shape}
use Rattle.p3_fri_transcript.specs.Steps.{FriNumbers}
use Rattle.p3_fri_transcript.specs.Views.{state_of}
use Rattle.p3_fri_transcript.proofs.TurnLists.{these_rounds_left}
use Rattle.p3_fri_relation.specs.Setting.{Fields}
use Rattle.p3_fri_prover.specs.Played.{Describes, IsPlayed}
use Rattle.p3_fri_prover.proofs.prover.play.play_test.Given.{Over}
use Rattle.p3_fri_prover.proofs.prover.play.play_test.Goals as goal

abbrev fields_at : (g : Over) → Fields g.row.F.Denot g.row.EF.Denot
fields_at g = record {
  base = g.F.Field.ops;
  ext = g.EF.Field.ops;
  lift = g.EF.ExtensionField.lift;
  coefficients = g.EF.ExtensionField.coefficients;
  degree = g.EF.ExtensionField.DIMENSION;
  root = g.F.TwoAdicField.root;
  two_adicity = g.F.TwoAdicField.TWO_ADICITY;
  shift = g.F.Field.GENERATOR;
}

pub play-requires-clause-rounds_left : goal.play-requires-clause-rounds_left
play-requires-clause-rounds_left g c =
    these_rounds_left g.EF.ExtensionField.DIMENSION (fri_shape c.args.planned.shape)
    (fri_shape c.start-transcript.result.shape) (length c.args.log_arities.now) _
    c.start-transcript.ensures.starts.shape (ap length c.requires.described.schedule)
    (c.start-transcript.ensures.steps ∙ c.requires.turns)

pub returns-in-Ok-clause-played : goal.returns-in-Ok-clause-played
returns-in-Ok-clause-played g c = λ top whole.
    let m = moves g.C.CanObserve-1.observed g.C.CanObserve-2.observed g.C.CanSample.sampled
    g.EF.ExtensionField.of_coefficients g.EF.ExtensionField.DIMENSION
    g.C.CanSampleBits.sampled_bits in
    let played = c.in-Ok.played in
    let P : FriNumbers → g.row.C.Denot → g.row.C.Denot → Type 0 = λ n before after.
    IsPlayed g.M.Mmcs.committed g.M.Mmcs.commitment_of (fields_at g)
    (g.S.FriFoldingStrategy.row_fold c.args.folding.now) m c.args.params.now.log_final_poly_len
    n top (lists c.args.inputs.items) before g.C.GrindingChallenger.solution played.rounds.commitments.items
    played.rounds.witnesses.items played.rounds.prover_data.items played.final_poly.items
    played.query_witness played.indices.items after in
    let seeded = bytes_observed g.F.Field.ops g.C.CanObserve-1.observed c.args.challenger.now
    (seed_bytes c.args.planned.seed) in
    subst (P (fri_shape c.args.planned.shape) seeded) (search rules)
    (subst (λ before. P (fri_shape c.args.planned.shape) before (state_of c.play.new.transcript))
    c.start-transcript.ensures.starts.state
    (subst (λ n. P n (state_of c.start-transcript.result) (state_of c.play.new.transcript))
    c.start-transcript.ensures.starts.shape (c.in-Ok.ensures.played top whole)))

pub play-requires-clause-described : goal.play-requires-clause-described
play-requires-clause-described g c =
    subst (λ (n : FriNumbers). Describes n c.args.log_arities.now c.args.params.now.log_final_poly_len
    g.C.CanSampleBits.MAX_SAMPLE_BITS) (sym c.start-transcript.ensures.starts.shape)
    c.requires.described
