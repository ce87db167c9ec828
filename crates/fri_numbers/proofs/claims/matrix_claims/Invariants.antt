use Rattle.std.proofs.Common.{◌≡◌, map, take}
use Rattle.p3_pcs.specs.Claims.{point_claim}
use Rattle.fri_numbers.specs.Claims.{point_by, point_listed}
use Rattle.fri_numbers.proofs.claims.matrix_claims.Given as goal

abbrev pub invariant-loop-point : goal.invariant-loop-point
invariant-loop-point g l = map point_listed l.points.items
    ≡ map (point_by g.N.Numbered.numbers_of) (map point_claim (take l.point-index l.opening.points.items))
