use Rattle.std.proofs.Common.{◌+◌, ap₂, ◌∙◌, arith}
use Rattle.p3_field_core.proofs.TermSums.{item}
use Rattle.p3_baby_bear.specs.declared.baby_bear.BabyBear.{BabyBear}
use Rattle.p3_baby_bear.specs.declared.baby_bear4.BabyBear4.{BabyBear4}
use Rattle.p3_baby_bear.specs.BabyBear.{baby_bear}
use Rattle.p3_baby_bear.specs.BabyBear4.{baby_bear4, lift4}
use Rattle.p3_baby_bear.proofs.baby_bear4.row_sums.two_products_at.Goals as goal

pub returns-clause-value : goal.returns-clause-value
returns-clause-value c =
    let values = c.args.values.now in
    let row = c.args.row.now in
    let i = c.args.i in
    let times = λ (a : BabyBear4) (x : BabyBear). baby_bear4.mul a (lift4 x) in
    c.two_products.ensures.value
    ∙ ap₂ baby_bear4.add
    (ap₂ times
    (item values i c.index-values-i.result baby_bear4.zero (omega arith) c.index-values-i.is)
    (item row i c.index-row-i.result baby_bear.zero (omega arith) c.index-row-i.is))
    (ap₂ times
    (item values (i + 1) c.index-values-i-2.result baby_bear4.zero (omega arith) c.index-values-i-2.is)
    (item row (i + 1) c.index-row-i-2.result baby_bear.zero (omega arith) c.index-row-i-2.is))
