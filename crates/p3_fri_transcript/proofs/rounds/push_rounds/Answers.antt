use Rattle.std.proofs.Common.{arith}
use Rattle.p3_fri_transcript.proofs.StepLists.{rounds_pushed, rounds_end}
use Rattle.p3_fri_transcript.proofs.rounds.push_rounds.Goals as goal

pub loop-preserved : goal.loop-preserved
loop-preserved g c =
    rounds_pushed g.EF.ExtensionField.DIMENSION c.args.pow_bits _ _ _ c.args.rounds c.loop.counter (omega arith) c.in_ok-push_round.ensures c.loop.invariant

pub returns : goal.returns
returns g c = rounds_end g.EF.ExtensionField.DIMENSION c.args.pow_bits _ _ c.args.rounds c.loop.counter (omega arith) c.loop.invariant
