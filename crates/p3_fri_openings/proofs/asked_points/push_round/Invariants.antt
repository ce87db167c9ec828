use Rattle.std.proofs.Common.{◌≡◌, ◌++◌, take}
use Rattle.std.specs.List.{flat_map}
use Rattle.p3_fri_openings.specs.Rounds.{asked_in}
use Rattle.p3_fri_openings.specs.Points.{points_of}
use Rattle.p3_fri_openings.proofs.asked_points.push_round.Given as goal

abbrev pub invariant-loop-matrix : goal.invariant-loop-matrix
invariant-loop-matrix g l =
    l.asked.items ≡ l.fn.asked.items ++ flat_map points_of (take l.matrix (asked_in l.round))
