use Rattle.p3_fri_openings.specs.Points.{asked_point}
use Rattle.algebra.proofs.Growing.{mapped_next, mapped_end}
use Rattle.p3_fri_openings.proofs.asked_points.push_points.Goals as goal

pub loop-point-preserved : goal.loop-point-preserved
loop-point-preserved g c =
    mapped_next (asked_point c.args.height) c.args.points.now c.loop-point.point-index
    c.point-item.result
    c.args.asked.now.items c.loop-point.asked.items c.push.new.self.items c.loop-point-test.true
    c.point-item.is c.loop-point.invariant c.in_ok-push.ensures.items

pub returns : goal.returns
returns g c =
    mapped_end (asked_point c.args.height) c.args.points.now c.loop-point.point-index
    c.args.asked.now.items c.loop-point.asked.items c.loop-point-test.false c.loop-point.invariant
