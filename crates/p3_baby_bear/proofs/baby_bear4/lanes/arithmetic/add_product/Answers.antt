use Rattle.std.proofs.Common.{◌+◌, get_or, ap, ◌∙◌, arith}
use Rattle.algebra.specs.Field.{multiple}
use Rattle.p3_baby_bear.specs.BabyBear.{baby_bear}
use Rattle.p3_baby_bear.proofs.LaneSteps.{sums_fit, sums_small, sum_counts}
use Rattle.p3_baby_bear.proofs.baby_bear4.lanes.arithmetic.add_product.Goals as goal

pub overflow_add-result : goal.overflow_add-result
overflow_add-result c =
    sums_fit 12159718993900339200 4053239664633446400 c.args.sums c.product.result (omega arith) c.requires c.product.ensures.small

pub returns-clause-value : goal.returns-clause-value
returns-clause-value c l within =
    sum_counts c.args.sums c.product.result l within (omega arith) (omega arith)
    ∙ ap (λ x. baby_bear.add (multiple baby_bear (get_or c.args.sums l 0)) x) (c.product.ensures.value l within)

pub returns-clause-small : goal.returns-clause-small
returns-clause-small c most small =
    sums_small most 4053239664633446400 (most + 4053239664633446400) c.args.sums c.product.result (omega arith) small c.product.ensures.small
