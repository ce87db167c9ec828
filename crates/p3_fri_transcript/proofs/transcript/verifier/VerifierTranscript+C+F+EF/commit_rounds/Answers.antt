use Rattle.std.proofs.Common.{◌+◌, ◌-◌, ◌<◌, ◌≤◌, length, refl, sym, ap, ◌∙◌, arith, subst}
use Rattle.std.proofs.lemmas.Result.{IfOk-from_err}
use Rattle.std.proofs.lemmas.List.{length_push}
use Rattle.std.specs.Prelude.{IsTrue}
use Rattle.p3_challenger_core.specs.Run.{Moves, moves}
use Rattle.p3_challenger_fs.specs.Script.{remaining}
use Rattle.p3_fri_pow.proofs.Reached.{reaches_itself, reaches_join}
use Rattle.p3_fri_transcript.specs.declared.transcript.failure.TranscriptFailure.{TranscriptFailure}
use Rattle.p3_fri_transcript.specs.Failures.{RoundsFailure}
use Rattle.p3_fri_transcript.specs.Replay.{RoundsReplay, round_replay, rounds_replay}
use Rattle.p3_fri_transcript.specs.Shapes.{fri_shape}
use Rattle.p3_fri_transcript.specs.Steps.{FriNumbers}
use Rattle.p3_fri_transcript.specs.Turns.{RoundsLeft}
use Rattle.p3_fri_transcript.proofs.Kept.{kept_join}
use Rattle.p3_fri_transcript.proofs.Outcomes.{no_answer}
use Rattle.p3_fri_transcript.proofs.Replays.{along-none, along-next, along-passes, along-end}
use Rattle.p3_fri_transcript.proofs.TurnLists.{one_round_left, other_rounds_left, no_round_taken, all_rounds_taken}
use Rattle.p3_fri_transcript.proofs.TurnLists.{one_for_each}
use Rattle.p3_fri_transcript.proofs.transcript.verifier.VerifierTranscript+C+F+EF.commit_rounds.Given.{Over}
use Rattle.p3_fri_transcript.proofs.transcript.verifier.VerifierTranscript+C+F+EF.commit_rounds.Goals as goal

abbrev moves_of : (g : Over) → Moves g.row.C.Denot g.row.F.Denot g.row.EF.Denot g.row.Com.Denot
moves_of g =
    moves g.C.CanObserve-1.observed g.C.CanObserve-2.observed g.C.CanSample.sampled
    g.EF.ExtensionField.of_coefficients g.EF.ExtensionField.DIMENSION
    g.C.CanSampleBits.sampled_bits

pub commit_round-requires-clause-some_round_left : goal.commit_round-requires-clause-some_round_left
commit_round-requires-clause-some_round_left g c =
    let here = c.loop-round in (
      c.len-expected.result - (here.round + 1),
      one_round_left g.EF.ExtensionField.DIMENSION (fri_shape c.args.self.now.shape)
          (fri_shape here.self.shape) c.len-expected.result here.round _ c.loop-round-test.true
          here.invariant.kept.shape here.invariant.steps,
    )

-- where all rounds pass, the one that was refused does
round_passes : (g : Over) (c : goal.After-drop-betas-in-Err g)
    → IsTrue (rounds_replay (moves_of g) (fri_shape c.args.self.now.shape).commit_pow_bits
    c.args.self.now.challenger.now c.args.commitments.now c.args.witnesses.now).passes
    → IsTrue (round_replay (moves_of g) (fri_shape c.loop-round.self.shape).commit_pow_bits
    c.loop-round.self.challenger.now c.index-commitments-round.result
    c.index-witnesses-round.result).passes
round_passes g c pass =
    let here = c.loop-round in
    let m = moves_of g in
    subst (λ (s : FriNumbers). IsTrue (round_replay m s.commit_pow_bits here.self.challenger.now
    c.index-commitments-round.result c.index-witnesses-round.result).passes)
    (sym here.invariant.kept.shape)
    (along-passes m (fri_shape c.args.self.now.shape).commit_pow_bits
    c.args.self.now.challenger.now here.self.challenger.now c.args.commitments.now
    c.args.witnesses.now here.round here.betas.items c.index-commitments-round.result
    c.index-witnesses-round.result
    (subst (λ n. here.round < n) (sym c.if-commitments-expected.false) c.loop-round-test.true)
    (subst (λ n. here.round < n) (sym c.if-witnesses-expected.false) c.loop-round-test.true)
    c.index-commitments-round.is c.index-witnesses-round.is here.invariant.along pass)

pub returns-in-Err-clause-passes : goal.returns-in-Err-clause-passes
returns-in-Err-clause-passes g c = λ known. (
  (λ ok. no_answer ok),
  λ held. c.in-Err.ensures.passes.1 (round_passes g c held.pow),
)

pub returns-in-Err-clause-failure : goal.returns-in-Err-clause-failure
unfolding fri_shape
returns-in-Err-clause-failure g c =
    let described = fri_shape c.args.self.now.shape in
    let start = c.args.self.now.challenger.now in
    let P : TranscriptFailure → Type 0 =
    λ e. RoundsFailure (moves_of g) described start c.args.commitments.now c.args.witnesses.now
    c.commit_round.new.self.challenger.now e in
    let counted = c.len-expected.ensures ∙ c.args.self.now.shape.log_arities.ok.0 in
    subst P (sym c.in-Err.ensures.refused) (
      c.if-commitments-expected.false ∙ counted,
      c.if-witnesses-expected.false ∙ counted,
      λ pass. no_answer (c.in-Err.ensures.passes.1 (round_passes g c pass)),
    )

pub returns-in-Err-clause-reached : goal.returns-in-Err-clause-reached
returns-in-Err-clause-reached g c =
    reaches_join _ _ _ _ c.loop-round.invariant.reached c.in-Err.ensures.reached

pub returns-in_err-push-in-Ok-clause-reached : goal.returns-in_err-push-in-Ok-clause-reached
returns-in_err-push-in-Ok-clause-reached g c =
    reaches_join _ _ _ _ c.loop-round.invariant.reached c.in-Ok.ensures.reached

pub loop-round-preserved : goal.loop-round-preserved
loop-round-preserved g c =
    let here = c.loop-round in
    let d = g.EF.ExtensionField.DIMENSION in
    let described = fri_shape c.args.self.now.shape in
    let m = moves_of g in
    let now = here.self.challenger.now in
    let commitment = c.index-commitments-round.result in
    let witness = c.index-witnesses-round.result in
    let rounds = c.len-expected.result in
    let there = c.loop-round-test.true in
    let same = ap (λ (s : FriNumbers). s.commit_pow_bits) here.invariant.kept.shape in
    let left =
    one_round_left d described (fri_shape here.self.shape) rounds here.round _ there
    here.invariant.kept.shape here.invariant.steps in
    record {
      along = along-next m described.commit_pow_bits c.args.self.now.challenger.now now
          c.commit_round.new.self.challenger.now c.args.commitments.now c.args.witnesses.now
          here.round here.betas.items c.push.new.list.items commitment witness c.in-Ok.beta
          (subst (λ n. here.round < n) (sym c.if-commitments-expected.false) there)
          (subst (λ n. here.round < n) (sym c.if-witnesses-expected.false) there)
          c.index-commitments-round.is c.index-witnesses-round.is
          (ap (λ b. round_replay m b now commitment witness) (sym same) ∙ c.in-Ok.ensures.round)
          c.in_ok-push-in-Ok.ensures here.invariant.along;
      count = ap length c.in_ok-push-in-Ok.ensures ∙ length_push here.betas.items c.in-Ok.beta
          ∙ ap (λ n. n + 1) here.invariant.count;
      kept = kept_join here.invariant.kept c.in-Ok.ensures.kept;
      steps = other_rounds_left d described (fri_shape here.self.shape) _ _ here.invariant.kept.shape
          (c.in-Ok.ensures.steps (rounds - (here.round + 1)) left);
      reached = reaches_join m _ here.self.challenger.now _ here.invariant.reached
          c.in-Ok.ensures.reached;
    }

pub returns-clause-passes : goal.returns-clause-passes
unfolding fri_shape
returns-clause-passes g c = λ known.
    let here = c.loop-round in
    let ended =
    along-end (moves g.C.CanObserve-1.observed g.C.CanObserve-2.observed g.C.CanSample.sampled
    g.EF.ExtensionField.of_coefficients g.EF.ExtensionField.DIMENSION
    g.C.CanSampleBits.sampled_bits) (fri_shape c.args.self.now.shape).commit_pow_bits
    c.args.self.now.challenger.now here.self.challenger.now c.args.commitments.now
    c.args.witnesses.now here.round here.betas.items (omega arith) here.invariant.along in (
      (λ ok. record {
        commitment_count =
            omega (arith, c.args.self.now.shape.log_arities.ok.0, c.len-expected.ensures);
        witness_count =
            omega (arith, c.args.self.now.shape.log_arities.ok.0, c.len-expected.ensures);
        pow = ap (λ (r : RoundsReplay _ _). r.passes) ended;
      }),
      λ held. refl,
    )

pub returns-clause-rounds : goal.returns-clause-rounds
returns-clause-rounds g c =
    let here = c.loop-round in
    along-end (moves g.C.CanObserve-1.observed g.C.CanObserve-2.observed g.C.CanSample.sampled
    g.EF.ExtensionField.of_coefficients g.EF.ExtensionField.DIMENSION
    g.C.CanSampleBits.sampled_bits) (fri_shape c.args.self.now.shape).commit_pow_bits
    c.args.self.now.challenger.now here.self.challenger.now c.args.commitments.now
    c.args.witnesses.now here.round here.betas.items (omega arith) here.invariant.along

-- where nothing is answered nothing is said of the answer
pub returns-in_err-betas-clause-rounds : goal.returns-in_err-betas-clause-rounds
returns-in_err-betas-clause-rounds g c =
    IfOk-from_err c.from_residual.result _ c.from_residual.ensures.0

pub returns-in_err-betas-clause-count : goal.returns-in_err-betas-clause-count
returns-in_err-betas-clause-count g c =
    IfOk-from_err c.from_residual.result _ c.from_residual.ensures.0

pub returns-in_err-betas-clause-steps : goal.returns-in_err-betas-clause-steps
returns-in_err-betas-clause-steps g c =
    IfOk-from_err c.from_residual.result _ c.from_residual.ensures.0

pub returns-in_err-push-in-Ok-clause-rounds : goal.returns-in_err-push-in-Ok-clause-rounds
returns-in_err-push-in-Ok-clause-rounds g c =
    IfOk-from_err c.from_residual-in_err-push-in-Ok.result _ c.from_residual-in_err-push-in-Ok.ensures.0

pub returns-in_err-push-in-Ok-clause-count : goal.returns-in_err-push-in-Ok-clause-count
returns-in_err-push-in-Ok-clause-count g c =
    IfOk-from_err c.from_residual-in_err-push-in-Ok.result _ c.from_residual-in_err-push-in-Ok.ensures.0

pub returns-in_err-push-in-Ok-clause-steps : goal.returns-in_err-push-in-Ok-clause-steps
returns-in_err-push-in-Ok-clause-steps g c =
    IfOk-from_err c.from_residual-in_err-push-in-Ok.result _ c.from_residual-in_err-push-in-Ok.ensures.0

pub returns-in-Err-clause-count : goal.returns-in-Err-clause-count
returns-in-Err-clause-count g c = tt

pub returns-in-Err-clause-rounds : goal.returns-in-Err-clause-rounds
returns-in-Err-clause-rounds g c = tt

pub returns-in-Err-clause-steps : goal.returns-in-Err-clause-steps
returns-in-Err-clause-steps g c = tt

pub loop-round-init : goal.loop-round-init
unfolding fri_shape
loop-round-init g c =
    let start = c.args.self.now.challenger.now in
    record {
      along = along-none (moves_of g) (fri_shape c.args.self.now.shape).commit_pow_bits start
          c.args.commitments.now c.args.witnesses.now c.in_ok-betas.betas.items
          c.in_ok-betas.ensures.items;
      count = ap length c.in_ok-betas.ensures.items;
      kept = record { same = refl; shape = refl };
      steps = no_round_taken g.EF.ExtensionField.DIMENSION (fri_shape c.args.self.now.shape)
          c.len-expected.result _
          (subst (λ n. RoundsLeft g.EF.ExtensionField.DIMENSION (fri_shape c.args.self.now.shape) n
          (remaining c.args.self.now.script))
          (sym (c.len-expected.ensures ∙ c.args.self.now.shape.log_arities.ok.0))
          c.requires.no_round_played);
      reached = reaches_itself (moves_of g) start start refl;
    }

pub returns-in-Err-clause-kept : goal.returns-in-Err-clause-kept
returns-in-Err-clause-kept g c =
    kept_join c.loop-round.invariant.kept c.in-Err.ensures.kept

pub returns-in_err-push-in-Ok-clause-kept : goal.returns-in_err-push-in-Ok-clause-kept
returns-in_err-push-in-Ok-clause-kept g c =
    kept_join c.loop-round.invariant.kept c.in-Ok.ensures.kept

pub returns-in-Err-clause-wrong_witnesses : goal.returns-in-Err-clause-wrong_witnesses
unfolding fri_shape
returns-in-Err-clause-wrong_witnesses g c = λ same other.
    absurd (other (c.if-witnesses-expected.false ∙ c.len-expected.ensures
    ∙ c.args.self.now.shape.log_arities.ok.0))

pub returns-in-Err-clause-wrong_commitments : goal.returns-in-Err-clause-wrong_commitments
unfolding fri_shape
returns-in-Err-clause-wrong_commitments g c = λ other.
    absurd (other (c.if-commitments-expected.false ∙ c.len-expected.ensures
    ∙ c.args.self.now.shape.log_arities.ok.0))

pub returns-clause-steps : goal.returns-clause-steps
returns-clause-steps g c =
    all_rounds_taken g.EF.ExtensionField.DIMENSION (fri_shape c.args.self.now.shape)
    c.len-expected.result c.loop-round.round _ c.loop-round-test.false
    c.loop-round.invariant.steps

pub commit_round-requires-clause-at_most_max : goal.commit_round-requires-clause-at_most_max
commit_round-requires-clause-at_most_max g c =
    subst (λ (s : FriNumbers). s.commit_pow_bits ≤ g.C.CanSampleBits.MAX_SAMPLE_BITS)
    (sym c.loop-round.invariant.kept.shape) c.requires.at_most_max

pub returns-clause-count : goal.returns-clause-count
unfolding fri_shape
returns-clause-count g c =
    one_for_each (length c.loop-round.betas.items) c.loop-round.round c.len-expected.result
    c.loop-round.invariant.count c.loop-round-test.false c.loop-round.auto.round-end
    ∙ c.len-expected.ensures ∙ c.args.self.now.shape.log_arities.ok.0
