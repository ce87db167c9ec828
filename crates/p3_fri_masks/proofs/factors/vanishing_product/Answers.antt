use Rattle.std.proofs.Common.{ap₂, sym, ◌∙◌, arith}
use Rattle.algebra.specs.Cosets.{vanishing}
use Rattle.p3_fri_masks.proofs.Weights.{product-more, product-whole}
use Rattle.p3_fri_masks.proofs.factors.vanishing_product.Goals as goal

pub loop-chunk-init : goal.loop-chunk-init
loop-chunk-init g c = c.ONE-product.ensures ∙ g.met.F.Field.one_law

pub loop-chunk-preserved : goal.loop-chunk-preserved
loop-chunk-preserved g c =
    let F = g.F.Field.ops in
    let field = g.met.F.Field in
    field.mul_law _ _ c.mul-product.result c.mul-product.ensures
    ∙ ap₂ (λ a b. F.mul a b) c.loop-chunk.invariant c.vanishing_poly_at_point.ensures
    ∙ sym (product-more F field.laws.ring (λ e. vanishing F e.0.shift e.0.log_size c.args.point)
    c.args.chunks.now c.loop-chunk.chunk-index c.chunk-item.result (omega arith) c.chunk-item.is)

pub returns : goal.returns
returns g c =
    let F = g.F.Field.ops in
    c.loop-chunk.invariant
    ∙ product-whole F g.met.F.Field.laws.ring
    (λ e. vanishing F e.0.shift e.0.log_size c.args.point) c.args.chunks.now
    c.loop-chunk.chunk-index (omega arith)
