use Rattle.std.proofs.Common.{◌≡◌, ◌-◌, true, length, take}
use Rattle.p3_challenger_core.specs.Run.{moves}
use Rattle.p3_fri_pow.specs.Reached.{Reaches}
use Rattle.p3_fri_transcript.specs.Found.{RoundsFound}
use Rattle.p3_fri_transcript.specs.Replay.{rounds_replay}
use Rattle.p3_fri_transcript.specs.Turns.{RoundsLeft}
use Rattle.p3_fri_transcript.specs.Views.{state_of, left_of, shape_of, Kept}
use Rattle.p3_fri_transcript.proofs.transcript.steps.play_rounds.Given as goal

abbrev pub invariant-loop-round : goal.invariant-loop-round
invariant-loop-round g l =
    let d = g.EF.ExtensionField.DIMENSION in
    let m =
    moves g.C.CanObserve-1.observed g.C.CanObserve-2.observed g.C.CanSample.sampled
    g.EF.ExtensionField.of_coefficients d g.C.CanSampleBits.sampled_bits in
    let described = shape_of l.fn.transcript in
    let bits = described.commit_pow_bits in
    let start = state_of l.fn.transcript in
    let played = take l.round l.commitments in
    record {
      rounds : rounds_replay m bits start played l.commit_witnesses.items
          ≡ record { passes = true; betas = l.betas.items; state = state_of l.transcript };
      drawn : length l.betas.items ≡ l.round;
      count : length l.commit_witnesses.items ≡ l.round;
      found : RoundsFound m g.F.Field.ops.zero g.C.GrindingChallenger.solution bits start played
          l.commit_witnesses.items;
      kept : Kept l.fn.transcript l.transcript;
      steps : RoundsLeft d described (length l.commitments - l.round) (left_of l.transcript);
      reached : Reaches m start (state_of l.transcript);
    }
