use Rattle.std.proofs.Common.{◌≡◌, ℕ, ◌+◌, ◌^◌, ◌≤◌, ◌∙◌, [], length, sum, get_or, ap, arith}
use Rattle.algebra.specs.Nested.{lists}
use Rattle.p3_challenger_core.specs.Run.{Moves, moves}
use Rattle.p3_fri_transcript.specs.Shapes.{fri_shape}
use Rattle.p3_fri_transcript.specs.Steps.{FriNumbers}
use Rattle.p3_fri_transcript.specs.Views.{state_of}
use Rattle.p3_fri_relation.specs.Setting.{Fields}
use Rattle.p3_fri_prover.specs.Played.{AllCommitted}
use Rattle.p3_fri_prover.proofs.Plays.{AreSplit, first_length, playable_folds, last_word_long}
use Rattle.p3_fri_prover.proofs.Plays.{rounds_stop, all_committed, queries_stop, played_to_end}
use Rattle.p3_fri_prover.proofs.Plays.{queries_alike}
use Rattle.p3_fri_prover.proofs.prover.play.play.Given.{Over}
use Rattle.p3_fri_prover.proofs.prover.play.play.Goals.{After-deref, In-Ok}
use Rattle.p3_fri_prover.proofs.prover.play.play.Goals as goal

abbrev fields_at : (g : Over) → Fields g.row.F.Denot g.row.EF.Denot
fields_at g = record {
  base = g.F.Field.ops;
  ext = g.EF.Field.ops;
  lift = g.EF.ExtensionField.lift;
  coefficients = g.EF.ExtensionField.coefficients;
  degree = g.EF.ExtensionField.DIMENSION;
  root = g.F.TwoAdicField.root;
  two_adicity = g.F.TwoAdicField.TWO_ADICITY;
  shift = g.F.Field.GENERATOR;
}

abbrev moves_at : (g : Over)
    → Moves g.row.C.Denot g.row.F.Denot g.row.EF.Denot g.row.M-Commitment.Denot
moves_at g = moves g.C.CanObserve-1.observed g.C.CanObserve-2.observed g.C.CanSample.sampled
    g.EF.ExtensionField.of_coefficients g.EF.ExtensionField.DIMENSION
    g.C.CanSampleBits.sampled_bits

-- the rounds begin with the first of the inputs, and have the others
split : (g : Over) (c : After-deref g)
    → AreSplit c.args.inputs.items c.deref.result.now c.remove-first.result
split g c = record {
  some = omega (arith, c.args.inputs.ok.0, c.requires.some_input);
  first_is = c.remove-first.ensures.value;
  others_are = c.deref.ensures.value ∙ c.remove-first.ensures.items;
}

rounds_played : (g : Over) (c : In-Ok g) (top : ℕ)
    → length (get_or (lists c.args.inputs.items) 0 []) ≡ 2 ^ top
    → let made = c.in-Ok.committed.0 in
    AllCommitted g.M.Mmcs.committed g.M.Mmcs.commitment_of (fields_at g)
    (g.S.FriFoldingStrategy.row_fold c.args.folding.now) (moves_at g)
    c.args.params.now.log_final_poly_len (fri_shape c.args.transcript.now.shape) top
    (lists c.args.inputs.items) (state_of c.args.transcript.now) g.C.GrindingChallenger.solution
    made.commitments.items made.witnesses.items made.prover_data.items c.in-Ok.committed.1.items
    (state_of c.commit_rounds-committed.new.transcript)
rounds_played g c top whole =
    let parts = split g (goal.at.In-Ok g c).After-deref in
    all_committed parts g.M.Mmcs.committed g.M.Mmcs.commitment_of (fields_at g)
    (g.S.FriFoldingStrategy.row_fold c.args.folding.now) (moves_at g)
    c.args.params.now.log_final_poly_len (fri_shape c.args.transcript.now.shape) top
    (state_of c.args.transcript.now) g.C.GrindingChallenger.solution c.args.log_arities.now
    c.requires.described.schedule (c.in-Ok.ensures.rounds top (first_length parts ∙ whole))

-- the word after the rounds is long enough for the final polynomial
long_enough : (g : Over) (c : In-Ok g)
    → 2 ^ c.args.params.now.log_final_poly_len ≤ length c.in-Ok.committed.1.items
long_enough g c =
    let can = c.requires.can_play in
    let top = can.height + sum c.args.log_arities.now in
    last_word_long (fields_at g) c.args.params.now.log_final_poly_len
    (fri_shape c.args.transcript.now.shape) (lists c.args.inputs.items)
    (rounds_played g c top can.length_of_word) can.height
    (ap (λ arities. can.height + sum arities) c.requires.described.schedule) can.long_enough
    can.length_of_word

pub commit_rounds-committed-requires-clause-foldable :
    goal.commit_rounds-committed-requires-clause-foldable
commit_rounds-committed-requires-clause-foldable g c =
    playable_folds
    (split g (goal.at.commit_rounds-committed-requires-clause-foldable g c).After-deref)
    c.args.log_arities.now c.args.params.now.log_final_poly_len
    (g.S.FriFoldingStrategy.max_log_height c.args.folding.now) c.requires.can_play

pub returns-in-Err-clause-refused : goal.returns-in-Err-clause-refused
returns-in-Err-clause-refused g c = λ top whole.
    let parts = split g (goal.at.returns-in-Err-clause-refused g c).After-deref in
    rounds_stop parts g.M.Mmcs.committed g.M.Mmcs.commitment_of (fields_at g)
    (g.S.FriFoldingStrategy.row_fold c.args.folding.now) (moves_at g)
    c.args.params.now.log_final_poly_len (fri_shape c.args.transcript.now.shape) top
    (state_of c.args.transcript.now) g.C.GrindingChallenger.solution c.args.log_arities.now
    c.requires.described.schedule c.in-Err.refusal
    (c.in-Err.ensures.refused top (first_length parts ∙ whole))

pub play_queries-requires-clause-long_enough : goal.play_queries-requires-clause-long_enough
play_queries-requires-clause-long_enough g c =
    let long = long_enough g (goal.at.play_queries-requires-clause-long_enough g c).In-Ok in
    omega (arith, c.in-Ok.committed.1.ok.0, long)

pub play_queries-requires-clause-described : goal.play_queries-requires-clause-described
play_queries-requires-clause-described g c =
    ap (λ (s : FriNumbers). s.final_poly_len) c.in-Ok.ensures.kept.shape ∙ c.requires.described.final_poly_len

pub returns-in-Err-play_queries-clause-refused : goal.returns-in-Err-play_queries-clause-refused
returns-in-Err-play_queries-clause-refused g c = λ top whole.
    queries_stop (fields_at g) c.args.params.now.log_final_poly_len
    (fri_shape c.args.transcript.now.shape) (lists c.args.inputs.items)
    (rounds_played g (goal.at.returns-in-Err-play_queries-clause-refused g c).In-Ok top whole)
    (fri_shape c.commit_rounds-committed.new.transcript.shape) c.in-Err-play_queries.refusal
    c.in-Ok.ensures.kept.shape c.in-Err-play_queries.ensures.refused

pub returns-in-Ok-play_queries-clause-played : goal.returns-in-Ok-play_queries-clause-played
returns-in-Ok-play_queries-clause-played g c = λ top whole.
    let own = fri_shape c.commit_rounds-committed.new.transcript.shape in
    played_to_end (fields_at g) c.args.params.now.log_final_poly_len
    (fri_shape c.args.transcript.now.shape) (lists c.args.inputs.items)
    (rounds_played g (goal.at.returns-in-Ok-play_queries-clause-played g c).In-Ok top whole) own
    c.in-Ok.ensures.kept.shape (queries_alike (fields_at g) c.args.params.now.log_final_poly_len
    own c.in-Ok.committed.1.items (state_of c.commit_rounds-committed.new.transcript)
    g.C.CanObserve-1.observed g.C.CanObserve-1.observed g.C.CanObserve-2.observed
    g.C.CanSample.sampled g.EF.ExtensionField.of_coefficients g.EF.ExtensionField.DIMENSION
    g.C.CanSampleBits.sampled_bits c.in-Ok-play_queries.ensures.played)
