use Rattle.std.proofs.Common.{◌≡◌, take}
use Rattle.p3_fri_openings.specs.Points.{asked_points}
use Rattle.p3_fri_openings.proofs.asked_points.asked_points.Given as goal

abbrev pub invariant-loop-round : goal.invariant-loop-round
invariant-loop-round g l = l.asked.items ≡ asked_points (take l.round-index l.rounds)
