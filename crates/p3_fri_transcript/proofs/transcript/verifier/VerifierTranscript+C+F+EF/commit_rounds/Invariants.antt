use Rattle.std.proofs.Common.{◌≡◌, ◌-◌, length}
use Rattle.p3_challenger_core.specs.Run.{moves}
use Rattle.p3_fri_pow.specs.Reached.{Reaches}
use Rattle.p3_fri_transcript.specs.Turns.{RoundsLeft}
use Rattle.p3_fri_transcript.specs.Views.{state_of, left_of, shape_of, Kept}
use Rattle.p3_fri_transcript.proofs.Replays.{IsAlong}
use Rattle.p3_fri_transcript.proofs.transcript.verifier.VerifierTranscript+C+F+EF.commit_rounds.Given as goal

abbrev pub invariant-loop-round : goal.invariant-loop-round
invariant-loop-round g l =
    let d = g.EF.ExtensionField.DIMENSION in
    let m =
    moves g.C.CanObserve-1.observed g.C.CanObserve-2.observed g.C.CanSample.sampled
    g.EF.ExtensionField.of_coefficients d g.C.CanSampleBits.sampled_bits in
    let described = shape_of l.fn.self in
    record {
      along : IsAlong m described.commit_pow_bits (state_of l.fn.self) l.commitments l.witnesses
          l.round l.betas.items (state_of l.self);
      count : length l.betas.items ≡ l.round;
      kept : Kept l.fn.self l.self;
      steps : RoundsLeft d described (l.expected - l.round) (left_of l.self);
      reached : Reaches m (state_of l.fn.self) (state_of l.self);
    }
