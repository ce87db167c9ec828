use Rattle.std.proofs.Common.{◌≡◌, map, take}
use Rattle.p3_pcs.specs.Claims.{point_claim}
use Rattle.fri_numbers.specs.Claims.{point_by, point_listed}
use Rattle.fri_numbers.proofs.claims.matrix_opening.Given as goal

abbrev pub invariant-loop-index : goal.invariant-loop-index
invariant-loop-index g l = map (point_by g.N.Numbered.numbers_of) (map point_claim l.points.items)
    ≡ map point_listed (take l.index l.claims.points.items)
