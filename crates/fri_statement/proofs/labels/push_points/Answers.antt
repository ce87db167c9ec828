use Rattle.fri_statement.specs.Statement.{numbers_bytes}
use Rattle.fri_statement.proofs.Pushes.{pushed_more}
use Rattle.fri_statement.proofs.labels.push_points.Invariants.{numbers}
use Rattle.fri_statement.proofs.labels.push_points.Goals as goal

pub loop-point-preserved : goal.loop-point-preserved
loop-point-preserved g c = pushed_more numbers_bytes (numbers g) c.args.points.now
    c.args.label.now.items c.loop-point.label.items c.push_point.new.label.items c.loop-point.point-index
    c.point-item.result c.loop-point-test.true c.point-item.is c.loop-point.invariant c.in_ok-push_point.ensures
