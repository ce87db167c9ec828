use Rattle.std.proofs.Common.{◌≡◌, ◌+◌, ◌-◌, ◌^◌, ◌<◌, ◌≤◌, ◌∙◌, ℕ, suc, length, take, sum, get_or}
use Rattle.std.proofs.Common.{refl, sym, ap, subst, Vec}
use Rattle.std.proofs.Math.Nat.{le-add_left}
use Rattle.std.proofs.lemmas.List.{take_all}
use Rattle.p3_fri_transcript.specs.Steps.{FriNumbers}
use Rattle.p3_fri_transcript.specs.Turns.{RoundsLeft}
use Rattle.p3_fri_transcript.specs.Views.{left_of, shape_of}
use Rattle.p3_fri_transcript.proofs.TurnLists.{one_round_left, other_rounds_left, no_round_taken}
use Rattle.p3_fri_transcript.proofs.TurnLists.{all_rounds_taken}
use Rattle.p3_fri_prover.proofs.Committed.{none_committed, length_so_far, next_committed}
use Rattle.p3_fri_prover.proofs.Committed.{can_fold_next, next_size, rounds_refused}
use Rattle.p3_fri_prover.proofs.prover.rounds.commit_rounds.Given.{Over}
use Rattle.p3_fri_prover.proofs.prover.rounds.commit_rounds.Goals.{In-loop-log_arity}
use Rattle.p3_field_core.proofs.IndexPowers.{exponents_agree}
use Rattle.std.proofs.lemmas.Result.{IfOk-from_err}
use Rattle.p3_fri_prover.proofs.prover.rounds.commit_rounds.Goals as goal

-- a round is left
below : (g : Over) (c : In-loop-log_arity g)
    → c.loop-log_arity.log_arity-index < length c.args.log_arities.now
below g c = c.loop-log_arity-test.true

-- so long is the word that the next round folds
size : (g : Over) (c : In-loop-log_arity g) (top : ℕ) → c.args.word.len ≡ 2 ^ top
    → c.loop-log_arity.word.len
    ≡ 2 ^ (top - sum (take c.loop-log_arity.log_arity-index c.args.log_arities.now))
size g c top whole =
    c.loop-log_arity.word.ok.0
    ∙ length_so_far c.args.log_arities.now c.loop-log_arity.log_arity-index
    (c.loop-log_arity.invariant.so_far top whole) (sym c.args.word.ok.0 ∙ whole)

-- so many rounds are left
left : (g : Over) (c : In-loop-log_arity g)
    → RoundsLeft g.EF.ExtensionField.DIMENSION (shape_of c.loop-log_arity.transcript)
    (suc (length c.args.log_arities.now - (c.loop-log_arity.log_arity-index + 1)))
    (left_of c.loop-log_arity.transcript)
left g c =
    one_round_left g.EF.ExtensionField.DIMENSION (shape_of c.args.transcript.now)
    (shape_of c.loop-log_arity.transcript) (length c.args.log_arities.now)
    c.loop-log_arity.log_arity-index _ (below g c) c.loop-log_arity.invariant.kept.shape
    c.loop-log_arity.invariant.steps

pub loop-log_arity-init : goal.loop-log_arity-init
loop-log_arity-init g c =
    let made = c.in_ok-rounds.ensures in
    record {
      kept = record { same = refl; shape = refl };
      steps = no_round_taken g.EF.ExtensionField.DIMENSION (shape_of c.args.transcript.now)
          (length c.args.log_arities.now) _ c.requires.rounds_left;
      so_far = λ top whole. none_committed made.commitments made.witnesses made.prover_data;
    }

pub commit_round-played-requires-clause-positive : goal.commit_round-played-requires-clause-positive
commit_round-played-requires-clause-positive g c =
    c.requires.positive c.loop-log_arity.log_arity-index 0
    (below g (goal.at.commit_round-played-requires-clause-positive g c).In-loop-log_arity)

pub commit_round-played-requires-clause-below_64 : goal.commit_round-played-requires-clause-below_64
commit_round-played-requires-clause-below_64 g c =
    c.requires.below_64 c.loop-log_arity.log_arity-index 0
    (below g (goal.at.commit_round-played-requires-clause-below_64 g c).In-loop-log_arity)

pub commit_round-played-requires-clause-foldable : goal.commit_round-played-requires-clause-foldable
commit_round-played-requires-clause-foldable g c =
    let turn = (goal.at.commit_round-played-requires-clause-foldable g c).In-loop-log_arity in
    let f = c.requires.foldable in
    let total = sum c.args.log_arities.now in
    can_fold_next c.args.log_arities.now c.loop-log_arity.log_arity-index (f.height + total)
    (g.S.FriFoldingStrategy.max_log_height c.args.folding.now) c.loop-log_arity.word.len
    (below g turn) (le-add_left total f.height) f.within
    (size g turn (f.height + total) f.length_of_word)

pub commit_round-played-requires-clause-some_round_left :
    goal.commit_round-played-requires-clause-some_round_left
commit_round-played-requires-clause-some_round_left g c = (
  length c.args.log_arities.now - (c.loop-log_arity.log_arity-index + 1),
  left g (goal.at.commit_round-played-requires-clause-some_round_left g c).In-loop-log_arity,
)

pub commit_round-played-requires-clause-at_most_max :
    goal.commit_round-played-requires-clause-at_most_max
commit_round-played-requires-clause-at_most_max g c =
    subst (λ (s : FriNumbers). s.commit_pow_bits ≤ g.C.CanSampleBits.MAX_SAMPLE_BITS)
    (sym c.loop-log_arity.invariant.kept.shape) c.requires.at_most_max

pub returns-in-Err-clause-kept : goal.returns-in-Err-clause-kept
returns-in-Err-clause-kept g c =
    let here = c.loop-log_arity.invariant in
    let round = c.in-Err.ensures.kept in
    record { same = round.same ∙ here.kept.same; shape = round.shape ∙ here.kept.shape }

pub returns-in-Err-clause-refused : goal.returns-in-Err-clause-refused
returns-in-Err-clause-refused g c = λ top whole.
    let here = c.loop-log_arity.invariant in
    rounds_refused c.args.log_arities.now c.loop-log_arity.log_arity-index (here.so_far top whole)
    (below g (goal.at.returns-in-Err-clause-refused g c).In-loop-log_arity)
    (ap (λ (s : FriNumbers). s.commit_pow_bits) here.kept.shape) c.in-Err.refusal
    c.in-Err.ensures.refused

pub returns-in_err-word-clause-kept : goal.returns-in_err-word-clause-kept
returns-in_err-word-clause-kept g c =
    let here = c.loop-log_arity.invariant in
    let round = c.in-Ok.ensures.kept in
    record { same = round.same ∙ here.kept.same; shape = round.shape ∙ here.kept.shape }

pub loop-log_arity-preserved : goal.loop-log_arity-preserved
loop-log_arity-preserved g c =
    let turn = (goal.at.loop-log_arity-preserved g c).In-loop-log_arity in
    let here = c.loop-log_arity.invariant in
    let arities = c.args.log_arities.now in
    let i = c.loop-log_arity.log_arity-index in
    let f = c.requires.foldable in
    let round = c.in-Ok.ensures in
    let pushed = c.in_ok-word.ensures in
    record {
      kept = record {
        same = round.kept.same ∙ here.kept.same;
        shape = round.kept.shape ∙ here.kept.shape;
      };
      steps = other_rounds_left g.EF.ExtensionField.DIMENSION (shape_of c.args.transcript.now)
          (shape_of c.loop-log_arity.transcript) _ _ here.kept.shape
          (round.steps (length arities - (i + 1)) (left g turn));
      so_far = λ top whole.
          let is_top : top ≡ f.height + sum arities =
          exponents_agree top (f.height + sum arities) (sym whole ∙ f.length_of_word) in
          let folds = next_size arities i top c.loop-log_arity.word.len (below g turn)
          (subst (λ t. sum arities ≤ t) (sym is_top) (le-add_left (sum arities) f.height))
          (size g turn top whole) in
          next_committed arities i (here.so_far top whole) (below g turn)
          (ap (λ (s : FriNumbers). s.commit_pow_bits) here.kept.shape)
          (round.round (top - sum (take i arities) - get_or arities i 0) folds) pushed.commitments
          pushed.witnesses pushed.prover_data (ap (λ (v : Vec _ _). v.items) pushed.word);
    }

pub returns-clause-steps : goal.returns-clause-steps
returns-clause-steps g c =
    all_rounds_taken g.EF.ExtensionField.DIMENSION (shape_of c.args.transcript.now)
    (length c.args.log_arities.now) c.loop-log_arity.log_arity-index _ c.loop-log_arity-test.false
    c.loop-log_arity.invariant.steps

pub returns-clause-rounds : goal.returns-clause-rounds
returns-clause-rounds g c = λ top whole.
    let arities = c.args.log_arities.now in
    let i = c.loop-log_arity.log_arity-index in
    let all : take i arities ≡ arities = take_all i arities c.loop-log_arity-test.false in
    let committed = c.loop-log_arity.invariant.so_far top whole in
    rw all at committed

-- of what is answered no refusal is said
pub returns-clause-refused : goal.returns-clause-refused
returns-clause-refused g c = tt

pub returns-in-Err-clause-rounds : goal.returns-in-Err-clause-rounds
returns-in-Err-clause-rounds g c = tt

pub returns-in-Err-clause-steps : goal.returns-in-Err-clause-steps
returns-in-Err-clause-steps g c = tt

-- where nothing is answered nothing is said of the answer
pub returns-in_err-rounds-clause-steps : goal.returns-in_err-rounds-clause-steps
returns-in_err-rounds-clause-steps g c =
    IfOk-from_err c.from_residual.result _ c.from_residual.ensures.0

pub returns-in_err-word-clause-steps : goal.returns-in_err-word-clause-steps
returns-in_err-word-clause-steps g c =
    IfOk-from_err c.from_residual-in_err-word.result _ c.from_residual-in_err-word.ensures.0
