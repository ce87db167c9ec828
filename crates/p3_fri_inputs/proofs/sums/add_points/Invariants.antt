use Rattle.std.proofs.Common.{◌≡◌, List, ◌++◌, drop, length}
use Rattle.std.specs.List.{flat_map}
use Rattle.algebra.specs.Field.{pow}
use Rattle.algebra.specs.Polynomial.{val}
use Rattle.algebra.specs.Quotients.{quotients}
use Rattle.p3_pcs.specs.Claims.{PointClaim}
use Rattle.p3_fri_inputs.specs.Points.{AreCombined}
use Rattle.p3_fri_inputs.proofs.sums.add_points.Given as goal

abbrev pub invariant-loop-k : goal.invariant-loop-k
invariant-loop-k g l =
    let K = g.EF.Field.ops in
    (alpha x : g.row.EF.Denot) (points : List (PointClaim g.row.EF.Denot))
    (row later : List g.row.EF.Denot)
    → AreCombined K alpha x points row l.claimed l.inverses
    → l.at_row ≡ val K row alpha
    → l.step ≡ pow K alpha (length row)
    → l.fn.sum ≡ val K later alpha
    → l.sum ≡ val K
    (flat_map (λ z. quotients K z.point x z.values row) (drop l.k points) ++ later) alpha
