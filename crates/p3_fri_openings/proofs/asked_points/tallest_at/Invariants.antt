use Rattle.std.proofs.Common.{◌≡◌, ◌≤◌, ◌<◌, All, Contains, take}
use Rattle.p3_fri_openings.specs.Points.{asked_point}
use Rattle.p3_fri_openings.proofs.asked_points.tallest_at.Given as goal

abbrev pub invariant-loop-matrix : goal.invariant-loop-matrix
invariant-loop-matrix g l = record {
  none_above : All (λ a. a.point ≡ l.point → a.height ≤ l.tallest) (take l.matrix-index l.asked);
  asked_there : 0 < l.tallest → Contains l.asked (asked_point l.tallest l.point);
}
