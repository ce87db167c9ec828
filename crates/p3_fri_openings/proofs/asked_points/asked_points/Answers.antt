use Rattle.std.proofs.Common.{[]}
use Rattle.p3_fri_openings.specs.Rounds.{IsRound}
use Rattle.p3_fri_openings.specs.Points.{points_in}
use Rattle.p3_fri_openings.proofs.First.{at_item}
use Rattle.algebra.proofs.Growing.{joined_pushed, joined_end}
use Rattle.p3_fri_openings.proofs.asked_points.asked_points.Goals as goal

pub push_round-requires : goal.push_round-requires
push_round-requires g c = record {
  round = at_item (IsRound g.F.TwoAdicField.TWO_ADICITY) c.args.rounds.now c.loop-round.round-index
      c.round-item.result c.loop-round-test.true c.round-item.is c.requires.rounds;
}

pub loop-round-preserved : goal.loop-round-preserved
loop-round-preserved g c =
    joined_pushed points_in c.args.rounds.now c.loop-round.round-index c.round-item.result []
    c.loop-round.asked.items c.push_round.new.asked.items c.loop-round-test.true c.round-item.is
    c.loop-round.invariant c.in_ok-push_round.ensures

pub returns : goal.returns
returns g c =
    joined_end points_in c.args.rounds.now c.loop-round.round-index [] c.loop-round.asked.items
    c.loop-round-test.false c.loop-round.invariant
