use Rattle.std.proofs.Common.{◌≡◌, ◌∷◌, [], ◌++◌, take, length, map, ap, ap₂, sym, ◌∙◌, arith}
use Rattle.std.proofs.lemmas.List.{get_or_default}
use Rattle.algebra.specs.Polynomial.{tabulate}
use Rattle.algebra.proofs.Lists.{tabulate-next, map-tabulate}
use Rattle.p3_converse.specs.Newton.{difference_product}
use Rattle.p3_converse.proofs.NewtonForm.{product_before, products-nonzero}
use Rattle.p3_converse.proofs.newton.newton_weights.Goals as goal

pub loop-t-preserved : goal.loop-t-preserved
loop-t-preserved g c =
    let F = g.F.Field.ops in
    let points = c.args.points.now in
    let here = c.loop-t in
    let p = c.index-points-t.result in
    c.in_ok-push.ensures.items
    ∙ ap₂ (λ xs y. xs ++ y ∷ []) here.invariant (c.product_of_differences.ensures ∙ ap (λ x. difference_product F x (take here.t points)) (c.index-points-t.is ∙ get_or_default points here.t p F.zero c.loop-t-test.true))
    ∙ sym (tabulate-next here.t (product_before F points))

pub batch_multiplicative_inverse-requires : goal.batch_multiplicative_inverse-requires
batch_multiplicative_inverse-requires g c =
    let F = g.F.Field.ops in
    let points = c.args.points.now in
    let end : c.loop-t.t ≡ length points = omega arith in
    record { nonzero = products-nonzero F g.met.F.Field.laws points c.requires.distinct c.deref.result.now (c.deref.ensures.value ∙ c.loop-t.invariant ∙ ap (λ n. tabulate n (product_before F points)) end) }

pub returns-clause-weights : goal.returns-clause-weights
returns-clause-weights g c =
    let F = g.F.Field.ops in
    let points = c.args.points.now in
    let end : c.loop-t.t ≡ length points = omega arith in
    let products : c.deref.result.now ≡ tabulate (length points) (product_before F points) = c.deref.ensures.value ∙ c.loop-t.invariant ∙ ap (λ n. tabulate n (product_before F points)) end in
    c.in_ok-weights.ensures ∙ ap (λ xs. map F.inv xs) products ∙ map-tabulate F.inv (length points) (product_before F points)
