use Rattle.std.proofs.Common.{ap, ap₂, sym, ◌∙◌}
use Rattle.p3_converse.proofs.NewtonForm.{difference_product-take_next}
use Rattle.p3_converse.proofs.newton.product_of_differences.Goals as goal

pub loop-other-preserved : goal.loop-other-preserved
loop-other-preserved g c =
    let F = g.F.Field.ops in
    let field = g.met.F.Field in
    let here = c.loop-other in
    let others = c.args.others.now in
    let x = c.args.point in
    let p = c.other-item.result in
    field.mul_law here.product c.sub.result c.mul-product.result c.mul-product.ensures
    ∙ ap₂ F.mul here.invariant (field.sub_law x p c.sub.result c.sub.ensures ∙ ap (λ q. F.add x (F.neg q)) c.other-item.is)
    ∙ sym (difference_product-take_next F field.laws.ring x others here.other-index p c.loop-other-test.true)
