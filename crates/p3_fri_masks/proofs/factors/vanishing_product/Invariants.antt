use Rattle.std.proofs.Common.{◌≡◌, map, take}
use Rattle.algebra.specs.Cosets.{vanishing}
use Rattle.algebra.specs.Products.{product}
use Rattle.p3_fri_masks.proofs.factors.vanishing_product.Given as goal

abbrev pub invariant-loop-chunk : goal.invariant-loop-chunk
invariant-loop-chunk g l =
    let F = g.F.Field.ops in
    l.product ≡ product F
    (map (λ e. vanishing F e.0.shift e.0.log_size l.point) (take l.chunk-index l.chunks))
