use Rattle.std.proofs.Common.{◌≡◌, map, take}
use Rattle.fri_verification.proofs.statement.points_claimed.Given as goal

abbrev pub invariant-loop-opening : goal.invariant-loop-opening
invariant-loop-opening g l = l.all.items ≡ map (λ p. p.point) (take l.opening-index l.points)
