use Rattle.std.proofs.Common.{ap, ap₂, sym, ◌∙◌, map}
use Rattle.std.proofs.lemmas.List.{get_or-map}
use Rattle.algebra.specs.Cosets.{vanishing}
use Rattle.algebra.specs.Products.{product}
use Rattle.p3_fri_masks.proofs.Weights.{product_over_others}
use Rattle.p3_fri_masks.proofs.factors.product_over_others.Goals as goal

pub mul-requires : goal.mul-requires
mul-requires g c = g.met.F.Field.can_mul_law _ _

pub returns : goal.returns
returns g c k sizes =
    let F = g.F.Field.ops in
    let field = g.met.F.Field in
    let p = c.first_point-point.result in
    let chunks = c.args.chunks.now in
    let i = c.args.index in
    field.mul_law _ _ c.mul.result c.mul.ensures
    ∙ ap₂ (λ a b. F.mul a b)
    (c.vanishing_product.ensures ∙ ap (λ es. product F (map (λ e. vanishing F e.0.shift e.0.log_size p) es)) c.split_at.ensures.front)
    (c.vanishing_product-2.ensures ∙ ap (λ es. product F (map (λ e. vanishing F e.0.shift e.0.log_size p) es)) c.split_at-2.ensures.back)
    ∙ product_over_others F field.laws.ring (λ e. e.0.shift) (λ e. e.0.log_size) k chunks i p
    c.requires sizes
    (c.first_point-point.ensures
    ∙ sym (get_or-map (λ e. e.0.shift) chunks i c.index-chunks-index.result F.zero c.requires))
