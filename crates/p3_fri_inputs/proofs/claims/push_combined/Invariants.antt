use Rattle.std.proofs.Common.{map, take, ◌++◌, ◌≡◌}
use Rattle.p3_pcs.specs.Claims.{point_claim}
use Rattle.algebra.specs.Polynomial.{val}
use Rattle.p3_fri_inputs.proofs.claims.push_combined.Given as goal

abbrev pub invariant-loop-k : goal.invariant-loop-k
invariant-loop-k g l = l.combined.items ≡ l.fn.combined.items
    ++ map (λ z. val g.EF.Field.ops z.values l.ladder.alpha)
    (take l.k (map point_claim l.matrix.points.items))
