use Rattle.std.proofs.Common.{◌≡◌, ◌++◌, map, take}
use Rattle.p3_fri_openings.specs.Points.{asked_point}
use Rattle.p3_fri_openings.proofs.asked_points.push_points.Given as goal

abbrev pub invariant-loop-point : goal.invariant-loop-point
invariant-loop-point g l =
    l.asked.items ≡ l.fn.asked.items ++ map (asked_point l.height) (take l.point-index l.points)
