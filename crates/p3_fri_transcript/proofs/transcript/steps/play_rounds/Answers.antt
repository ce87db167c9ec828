use Rattle.std.proofs.Common.{◌≡◌, ◌≤◌, ◌+◌, ◌-◌, length, unwrap_or, Some, refl, sym, ap, ◌∙◌, arith}
use Rattle.std.proofs.Common.{rules, subst}
use Rattle.std.proofs.lemmas.List.{length_push, take_all}
use Rattle.p3_challenger_core.specs.Run.{moves}
use Rattle.p3_fri_folding.specs.declared.error.FriProverError.{FriProverError}
use Rattle.p3_fri_pow.specs.Pow.{sent_witness}
use Rattle.p3_fri_pow.proofs.Found.{sent_is}
use Rattle.p3_fri_pow.proofs.Reached.{reaches_itself, reaches_join}
use Rattle.p3_fri_transcript.specs.Found.{RoundsFound, RoundsRefused}
use Rattle.p3_fri_transcript.specs.Replay.{round_replay, rounds_replay}
use Rattle.p3_fri_transcript.specs.Shapes.{fri_shape}
use Rattle.p3_fri_transcript.specs.Steps.{FriNumbers}
use Rattle.p3_fri_transcript.proofs.Kept.{kept_join}
use Rattle.p3_fri_transcript.proofs.Refusals.{round_not_found}
use Rattle.p3_fri_transcript.proofs.Replays.{rounds_more, found_more, rounds-none}
use Rattle.p3_fri_transcript.proofs.TurnLists.{one_round_left, other_rounds_left, no_round_taken, all_rounds_taken}
use Rattle.p3_fri_transcript.proofs.TurnLists.{one_for_each}
use Rattle.std.proofs.lemmas.Result.{IfOk-from_err}
use Rattle.p3_fri_transcript.proofs.transcript.steps.play_rounds.Goals as goal

pub loop-round-init : goal.loop-round-init
loop-round-init g c =
    let d = g.EF.ExtensionField.DIMENSION in
    let m =
    moves g.C.CanObserve-1.observed g.C.CanObserve-2.observed g.C.CanSample.sampled
    g.EF.ExtensionField.of_coefficients d g.C.CanSampleBits.sampled_bits in
    let described = fri_shape c.args.transcript.now.shape in
    let start = c.args.transcript.now.challenger.now in
    record {
      rounds = rounds-none m described.commit_pow_bits start _ _ c.in_ok-betas.ensures.items;
      drawn = ap length c.in_ok-betas.ensures.items;
      count = ap length c.in_ok-commit_witnesses.ensures.items;
      found = tt;
      kept = record { same = refl; shape = refl };
      steps = no_round_taken d described (length c.args.commitments.now) _ c.requires.rounds_left;
      reached = reaches_itself m start start refl;
    }

pub commit_round-requires-clause-some_round_left : goal.commit_round-requires-clause-some_round_left
commit_round-requires-clause-some_round_left g c =
    let here = c.loop-round in
    let rounds = length c.args.commitments.now in (
      rounds - (here.round + 1),
      one_round_left g.EF.ExtensionField.DIMENSION (fri_shape c.args.transcript.now.shape)
          (fri_shape here.transcript.shape) rounds here.round _ c.loop-round-test.true
          here.invariant.kept.shape here.invariant.steps,
    )

pub returns-in-Err-clause-refused : goal.returns-in-Err-clause-refused
returns-in-Err-clause-refused g c =
    let here = c.loop-round in
    let d = g.EF.ExtensionField.DIMENSION in
    let m =
    moves g.C.CanObserve-1.observed g.C.CanObserve-2.observed g.C.CanSample.sampled
    g.EF.ExtensionField.of_coefficients d g.C.CanSampleBits.sampled_bits in
    let described = fri_shape c.args.transcript.now.shape in
    let own = fri_shape here.transcript.shape in
    let start = c.args.transcript.now.challenger.now in
    let P : FriProverError → Type 0 =
    λ e. RoundsRefused m g.F.Field.ops.zero g.C.GrindingChallenger.solution
    described.commit_pow_bits start c.args.commitments.now e in
    subst P (sym c.in-Err.ensures.refused)
    (round_not_found m g.F.Field.ops.zero g.C.GrindingChallenger.solution
    described.commit_pow_bits own.commit_pow_bits start
    here.transcript.challenger.now c.args.commitments.now here.commit_witnesses.items
    here.betas.items here.round c.index-commitments-round.result c.loop-round-test.true
    c.index-commitments-round.is here.invariant.count here.invariant.rounds here.invariant.found
    (ap (λ (s : FriNumbers). s.commit_pow_bits) here.invariant.kept.shape)
    c.in-Err.ensures.none_passes)

pub returns-in-Err-clause-reached : goal.returns-in-Err-clause-reached
returns-in-Err-clause-reached g c =
    reaches_join _ _ _ _ c.loop-round.invariant.reached c.in-Err.ensures.reached

pub loop-round-preserved : goal.loop-round-preserved
loop-round-preserved g c =
    let here = c.loop-round in
    let d = g.EF.ExtensionField.DIMENSION in
    let m =
    moves g.C.CanObserve-1.observed g.C.CanObserve-2.observed g.C.CanSample.sampled
    g.EF.ExtensionField.of_coefficients d g.C.CanSampleBits.sampled_bits in
    let described = fri_shape c.args.transcript.now.shape in
    let own = fri_shape here.transcript.shape in
    let bits = described.commit_pow_bits in
    let start = c.args.transcript.now.challenger.now in
    let now = here.transcript.challenger.now in
    let after = c.commit_round.new.self.challenger.now in
    let commitments = c.args.commitments.now in
    let commitment = c.index-commitments-round.result in
    let rounds = length commitments in
    let there = c.loop-round-test.true in
    let zero = g.F.Field.ops.zero in
    let solution = g.C.GrindingChallenger.solution in
    let found : c.unwrap_or.result ≡ unwrap_or c.in-Ok.drawn.1 zero =
    c.unwrap_or.ensures
    ∙ ap (unwrap_or c.in-Ok.drawn.1) (c.ZERO.ensures ∙ g.met.F.Field.zero_law) in
    let same : own.commit_pow_bits ≡ bits =
    ap (λ (s : FriNumbers). s.commit_pow_bits) here.invariant.kept.shape in
    let observed = m.observe_commitment now commitment in
    let sent : sent_witness zero solution observed bits ≡ Some c.unwrap_or.result =
    subst (λ b. sent_witness zero solution observed b ≡ Some c.unwrap_or.result) same
    (sent_is zero solution observed own.commit_pow_bits c.in-Ok.drawn.1 c.in-Ok.ensures.witness
    c.in-Ok.ensures.found ∙ ap Some (sym found)) in
    let left =
    one_round_left d described own rounds here.round _ there here.invariant.kept.shape
    here.invariant.steps in
    record {
      rounds = rounds_more m bits start now after commitments here.commit_witnesses.items
          c.push-in-Ok.new.list.items here.betas.items c.push.new.list.items here.round commitment
          c.unwrap_or.result c.in-Ok.drawn.0 there c.index-commitments-round.is
          here.invariant.count here.invariant.rounds
          (ap (λ w. round_replay m bits now commitment w) found
          ∙ ap (λ b. round_replay m b now commitment (unwrap_or c.in-Ok.drawn.1 zero)) (sym same)
          ∙ c.in-Ok.ensures.round)
          c.in_ok-push-in-Ok-2.ensures c.in_ok-push-in-Ok.ensures;
      drawn = ap length c.in_ok-push-in-Ok.ensures ∙ length_push here.betas.items c.in-Ok.drawn.0
          ∙ ap (λ n. n + 1) here.invariant.drawn;
      count = ap length c.in_ok-push-in-Ok-2.ensures
          ∙ length_push here.commit_witnesses.items c.unwrap_or.result
          ∙ ap (λ n. n + 1) here.invariant.count;
      found = found_more m bits zero solution start now commitments here.commit_witnesses.items
          c.push-in-Ok.new.list.items here.betas.items here.round commitment c.unwrap_or.result
          there c.index-commitments-round.is here.invariant.count here.invariant.rounds
          here.invariant.found sent c.in_ok-push-in-Ok-2.ensures;
      kept = kept_join here.invariant.kept c.in-Ok.ensures.kept;
      steps = other_rounds_left d described own _ _ here.invariant.kept.shape
          (c.in-Ok.ensures.steps (rounds - (here.round + 1)) left);
      reached = reaches_join m start now after here.invariant.reached c.in-Ok.ensures.reached;
    }

pub returns-in_err-push-in-Ok-clause-reached : goal.returns-in_err-push-in-Ok-clause-reached
returns-in_err-push-in-Ok-clause-reached g c =
    reaches_join _ _ _ _ c.loop-round.invariant.reached c.in-Ok.ensures.reached

pub returns-in_err-push-in-Ok-2-clause-reached : goal.returns-in_err-push-in-Ok-2-clause-reached
returns-in_err-push-in-Ok-2-clause-reached g c =
    reaches_join _ _ _ _ c.loop-round.invariant.reached c.in-Ok.ensures.reached

pub returns-clause-rounds : goal.returns-clause-rounds
returns-clause-rounds g c =
    let here = c.loop-round in
    let m =
    moves g.C.CanObserve-1.observed g.C.CanObserve-2.observed g.C.CanSample.sampled
    g.EF.ExtensionField.of_coefficients g.EF.ExtensionField.DIMENSION g.C.CanSampleBits.sampled_bits in
    let bits = (fri_shape c.args.transcript.now.shape).commit_pow_bits in
    ap (λ cs. rounds_replay m bits c.args.transcript.now.challenger.now cs here.commit_witnesses.items)
    (sym (take_all here.round c.args.commitments.now c.loop-round-test.false))
    ∙ here.invariant.rounds

pub returns-clause-found : goal.returns-clause-found
returns-clause-found g c =
    let here = c.loop-round in
    let m =
    moves g.C.CanObserve-1.observed g.C.CanObserve-2.observed g.C.CanSample.sampled
    g.EF.ExtensionField.of_coefficients g.EF.ExtensionField.DIMENSION g.C.CanSampleBits.sampled_bits in
    let bits = (fri_shape c.args.transcript.now.shape).commit_pow_bits in
    subst
    (λ cs. RoundsFound m g.F.Field.ops.zero g.C.GrindingChallenger.solution bits c.args.transcript.now.challenger.now cs
    here.commit_witnesses.items)
    (take_all here.round c.args.commitments.now c.loop-round-test.false) here.invariant.found

pub returns-clause-steps : goal.returns-clause-steps
returns-clause-steps g c =
    all_rounds_taken g.EF.ExtensionField.DIMENSION (fri_shape c.args.transcript.now.shape) (length c.args.commitments.now)
    c.loop-round.round _ c.loop-round-test.false c.loop-round.invariant.steps

-- where nothing is answered nothing is said of the answer
pub returns-in-Err-clause-betas : goal.returns-in-Err-clause-betas
returns-in-Err-clause-betas g c = tt

pub returns-in-Err-clause-found : goal.returns-in-Err-clause-found
returns-in-Err-clause-found g c = tt

pub returns-in-Err-clause-rounds : goal.returns-in-Err-clause-rounds
returns-in-Err-clause-rounds g c = tt

pub returns-in-Err-clause-steps : goal.returns-in-Err-clause-steps
returns-in-Err-clause-steps g c = tt

pub returns-in-Err-clause-witnesses : goal.returns-in-Err-clause-witnesses
returns-in-Err-clause-witnesses g c = tt

pub returns-in_err-betas-clause-betas : goal.returns-in_err-betas-clause-betas
returns-in_err-betas-clause-betas g c =
    IfOk-from_err c.from_residual.result _ c.from_residual.ensures.0

pub returns-in_err-betas-clause-found : goal.returns-in_err-betas-clause-found
returns-in_err-betas-clause-found g c =
    IfOk-from_err c.from_residual.result _ c.from_residual.ensures.0

pub returns-in_err-betas-clause-rounds : goal.returns-in_err-betas-clause-rounds
returns-in_err-betas-clause-rounds g c =
    IfOk-from_err c.from_residual.result _ c.from_residual.ensures.0

pub returns-in_err-betas-clause-steps : goal.returns-in_err-betas-clause-steps
returns-in_err-betas-clause-steps g c =
    IfOk-from_err c.from_residual.result _ c.from_residual.ensures.0

pub returns-in_err-betas-clause-witnesses : goal.returns-in_err-betas-clause-witnesses
returns-in_err-betas-clause-witnesses g c =
    IfOk-from_err c.from_residual.result _ c.from_residual.ensures.0

pub returns-in_err-commit_witnesses-clause-betas : goal.returns-in_err-commit_witnesses-clause-betas
returns-in_err-commit_witnesses-clause-betas g c =
    IfOk-from_err c.from_residual-in_err-commit_witnesses.result _ c.from_residual-in_err-commit_witnesses.ensures.0

pub returns-in_err-commit_witnesses-clause-found : goal.returns-in_err-commit_witnesses-clause-found
returns-in_err-commit_witnesses-clause-found g c =
    IfOk-from_err c.from_residual-in_err-commit_witnesses.result _ c.from_residual-in_err-commit_witnesses.ensures.0

pub returns-in_err-commit_witnesses-clause-rounds : goal.returns-in_err-commit_witnesses-clause-rounds
returns-in_err-commit_witnesses-clause-rounds g c =
    IfOk-from_err c.from_residual-in_err-commit_witnesses.result _ c.from_residual-in_err-commit_witnesses.ensures.0

pub returns-in_err-commit_witnesses-clause-steps : goal.returns-in_err-commit_witnesses-clause-steps
returns-in_err-commit_witnesses-clause-steps g c =
    IfOk-from_err c.from_residual-in_err-commit_witnesses.result _ c.from_residual-in_err-commit_witnesses.ensures.0

pub returns-in_err-commit_witnesses-clause-witnesses : goal.returns-in_err-commit_witnesses-clause-witnesses
returns-in_err-commit_witnesses-clause-witnesses g c =
    IfOk-from_err c.from_residual-in_err-commit_witnesses.result _ c.from_residual-in_err-commit_witnesses.ensures.0

pub returns-in_err-push-in-Ok-2-clause-betas : goal.returns-in_err-push-in-Ok-2-clause-betas
returns-in_err-push-in-Ok-2-clause-betas g c =
    IfOk-from_err c.from_residual-in_err-push-in-Ok-2.result _ c.from_residual-in_err-push-in-Ok-2.ensures.0

pub returns-in_err-push-in-Ok-2-clause-found : goal.returns-in_err-push-in-Ok-2-clause-found
returns-in_err-push-in-Ok-2-clause-found g c =
    IfOk-from_err c.from_residual-in_err-push-in-Ok-2.result _ c.from_residual-in_err-push-in-Ok-2.ensures.0

pub returns-in_err-push-in-Ok-2-clause-rounds : goal.returns-in_err-push-in-Ok-2-clause-rounds
returns-in_err-push-in-Ok-2-clause-rounds g c =
    IfOk-from_err c.from_residual-in_err-push-in-Ok-2.result _ c.from_residual-in_err-push-in-Ok-2.ensures.0

pub returns-in_err-push-in-Ok-2-clause-steps : goal.returns-in_err-push-in-Ok-2-clause-steps
returns-in_err-push-in-Ok-2-clause-steps g c =
    IfOk-from_err c.from_residual-in_err-push-in-Ok-2.result _ c.from_residual-in_err-push-in-Ok-2.ensures.0

pub returns-in_err-push-in-Ok-2-clause-witnesses : goal.returns-in_err-push-in-Ok-2-clause-witnesses
returns-in_err-push-in-Ok-2-clause-witnesses g c =
    IfOk-from_err c.from_residual-in_err-push-in-Ok-2.result _ c.from_residual-in_err-push-in-Ok-2.ensures.0

pub returns-in_err-push-in-Ok-clause-betas : goal.returns-in_err-push-in-Ok-clause-betas
returns-in_err-push-in-Ok-clause-betas g c =
    IfOk-from_err c.from_residual-in_err-push-in-Ok.result _ c.from_residual-in_err-push-in-Ok.ensures.0

pub returns-in_err-push-in-Ok-clause-found : goal.returns-in_err-push-in-Ok-clause-found
returns-in_err-push-in-Ok-clause-found g c =
    IfOk-from_err c.from_residual-in_err-push-in-Ok.result _ c.from_residual-in_err-push-in-Ok.ensures.0

pub returns-in_err-push-in-Ok-clause-rounds : goal.returns-in_err-push-in-Ok-clause-rounds
returns-in_err-push-in-Ok-clause-rounds g c =
    IfOk-from_err c.from_residual-in_err-push-in-Ok.result _ c.from_residual-in_err-push-in-Ok.ensures.0

pub returns-in_err-push-in-Ok-clause-steps : goal.returns-in_err-push-in-Ok-clause-steps
returns-in_err-push-in-Ok-clause-steps g c =
    IfOk-from_err c.from_residual-in_err-push-in-Ok.result _ c.from_residual-in_err-push-in-Ok.ensures.0

pub returns-in_err-push-in-Ok-clause-witnesses : goal.returns-in_err-push-in-Ok-clause-witnesses
returns-in_err-push-in-Ok-clause-witnesses g c =
    IfOk-from_err c.from_residual-in_err-push-in-Ok.result _ c.from_residual-in_err-push-in-Ok.ensures.0

pub returns-in-Err-clause-kept : goal.returns-in-Err-clause-kept
returns-in-Err-clause-kept g c =
    kept_join c.loop-round.invariant.kept c.in-Err.ensures.kept

pub returns-in_err-push-in-Ok-2-clause-kept : goal.returns-in_err-push-in-Ok-2-clause-kept
returns-in_err-push-in-Ok-2-clause-kept g c =
    kept_join c.loop-round.invariant.kept c.in-Ok.ensures.kept

pub returns-in_err-push-in-Ok-clause-kept : goal.returns-in_err-push-in-Ok-clause-kept
returns-in_err-push-in-Ok-clause-kept g c =
    kept_join c.loop-round.invariant.kept c.in-Ok.ensures.kept

pub commit_round-requires-clause-at_most_max : goal.commit_round-requires-clause-at_most_max
commit_round-requires-clause-at_most_max g c =
    subst (λ (s : FriNumbers). s.commit_pow_bits ≤ g.C.CanSampleBits.MAX_SAMPLE_BITS)
    (sym c.loop-round.invariant.kept.shape) c.requires.at_most_max

pub returns-clause-betas : goal.returns-clause-betas
returns-clause-betas g c =
    one_for_each (length c.loop-round.betas.items) c.loop-round.round
    (length c.args.commitments.now) c.loop-round.invariant.drawn c.loop-round-test.false
    c.loop-round.auto.round-end

pub returns-clause-witnesses : goal.returns-clause-witnesses
returns-clause-witnesses g c =
    one_for_each (length c.loop-round.commit_witnesses.items) c.loop-round.round
    (length c.args.commitments.now) c.loop-round.invariant.count c.loop-round-test.false
    c.loop-round.auto.round-end
