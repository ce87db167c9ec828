use Rattle.std.proofs.Common.{get_or, ap, ◌∙◌, arith}
use Rattle.algebra.specs.Field.{multiple}
use Rattle.p3_baby_bear.specs.BabyBear.{baby_bear}
use Rattle.p3_baby_bear.proofs.LaneSteps.{each, each_product_small, product_counts}
use Rattle.p3_baby_bear.proofs.baby_bear4.lanes.arithmetic.product.Goals as goal

pub returns-clause-value : goal.returns-clause-value
returns-clause-value c l within =
    ap (λ ns. multiple baby_bear (get_or ns l 0)) c.products.ensures
    ∙ product_counts c.args.a.numbers c.args.b.numbers l within (omega arith) (omega arith)

pub returns-clause-small : goal.returns-clause-small
returns-clause-small c =
    rw c.products.ensures (each_product_small c.args.a.numbers c.args.b.numbers (each c.args.a.numbers c.args.a.canonical) (each c.args.b.numbers c.args.b.canonical))
