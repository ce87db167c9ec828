use Rattle.std.proofs.Common.{arith}
use Rattle.p3_fri_openings.specs.Rounds.{IsRound}
use Rattle.p3_fri_openings.proofs.First.{one_more, to_the_end}
use Rattle.p3_fri_openings_tests.proofs.rounds.are_rounds.Goals as goal

pub loop-round-preserved : goal.loop-round-preserved
loop-round-preserved c =
    one_more (IsRound 27) c.args.rounds.now c.loop-round.round-index
    c.round-item.result c.loop-round-test.true c.round-item.is c.loop-round.invariant
    (record {
      lists_of_points = omega arith;
      cosets = c.have_cosets.ensures c.if-not-have_cosets.false;
    })

pub returns : goal.returns
returns c = λ t.
    to_the_end (IsRound 27) c.args.rounds.now c.loop-round.round-index
    c.loop-round-test.false c.loop-round.invariant
