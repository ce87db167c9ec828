use Rattle.std.proofs.Common.{ap₂, ◌∙◌, lit<}
use Rattle.p3_baby_bear.specs.BabyBear.{baby_bear}
use Rattle.p3_baby_bear.proofs.RowSteps.{pair_is}
use Rattle.p3_baby_bear.proofs.baby_bear4.row_sums.two_products.Goals as goal

pub returns-clause-value : goal.returns-clause-value
returns-clause-value c =
    let times = baby_bear.mul in
    let a = c.lanes_of-coefficients.ensures in
    let b = c.lanes_of.ensures in
    let p = c.product.ensures.value in
    pair_is c.product.result c.args.first c.args.second c.args.x c.args.y
    (p 0 (lit< tt) ∙ ap₂ times (a 0 (lit< tt)) (b 0 (lit< tt)))
    (p 1 (lit< tt) ∙ ap₂ times (a 1 (lit< tt)) (b 1 (lit< tt)))
    (p 2 (lit< tt) ∙ ap₂ times (a 2 (lit< tt)) (b 2 (lit< tt)))
    (p 3 (lit< tt) ∙ ap₂ times (a 3 (lit< tt)) (b 3 (lit< tt)))
    (p 4 (lit< tt) ∙ ap₂ times (a 4 (lit< tt)) (b 4 (lit< tt)))
    (p 5 (lit< tt) ∙ ap₂ times (a 5 (lit< tt)) (b 5 (lit< tt)))
    (p 6 (lit< tt) ∙ ap₂ times (a 6 (lit< tt)) (b 6 (lit< tt)))
    (p 7 (lit< tt) ∙ ap₂ times (a 7 (lit< tt)) (b 7 (lit< tt)))
