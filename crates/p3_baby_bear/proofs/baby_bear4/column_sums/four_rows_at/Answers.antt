use Rattle.std.proofs.Common.{◌+◌, ◌*◌, ◌≤◌, ◌<◌, refl, ap, ◌∙◌, arith}
use Rattle.std.proofs.lemmas.Simd.{Each1-weaker}
use Rattle.algebra.specs.Polynomial.{sum_below}
use Rattle.p3_field_core.specs.RowSums.{column_term}
use Rattle.p3_field_core.proofs.TermSums.{item}
use Rattle.p3_baby_bear.specs.BabyBear.{baby_bear}
use Rattle.p3_baby_bear.specs.BabyBearLaws.{baby_bear_laws}
use Rattle.p3_baby_bear.specs.Lanes.{lane_of}
use Rattle.p3_baby_bear.proofs.ColumnSteps.{four_more, lane_term}
use Rattle.p3_baby_bear.proofs.baby_bear4.column_sums.four_rows_at.Goals as goal

pub add_product-three-requires : goal.add_product-three-requires
add_product-three-requires c =
    Each1-weaker (λ n. n ≤ 8106479329266892800) (λ n. n ≤ 12159718993900339200)
    (λ n l. omega (arith, l)) c.add_product-two.result
    (c.add_product-two.ensures.small 4053239664633446400 c.product-first.ensures.small)

pub add_product-requires : goal.add_product-requires
add_product-requires c =
    c.add_product-three.ensures.small 8106479329266892800
    (c.add_product-two.ensures.small 4053239664633446400 c.product-first.ensures.small)

pub returns-clause-fits : goal.returns-clause-fits
returns-clause-fits c =
    Each1-weaker (λ n. n ≤ 16212958658533785600) (λ n. n < 18446744073709551616)
    (λ n l. omega (arith, l)) c.add_product.result
    (c.add_product.ensures.small 12159718993900339200
    (c.add_product-three.ensures.small 8106479329266892800
    (c.add_product-two.ensures.small 4053239664633446400 c.product-first.ensures.small)))

pub returns-clause-value : goal.returns-clause-value
returns-clause-value c l h =
    let w = c.args.width in
    let factors = c.args.factors.now in
    let rows = c.args.rows.now in
    let column = c.args.column in
    let i = c.args.i in
    let start = i * w + column in
    let f = column_term baby_bear baby_bear (λ x. x) w factors rows (column + l) in
    let a0 = lane_of c.broadcast-factor.result.numbers l in
    let a1 = lane_of c.broadcast-factor-2.result.numbers l in
    let a2 = lane_of c.broadcast-factor-3.result.numbers l in
    let a3 = lane_of c.broadcast-factor-4.result.numbers l in
    let b0 = lane_of c.entries_at.result.numbers l in
    let b1 = lane_of c.entries_at-2.result.numbers l in
    let b2 = lane_of c.entries_at-3.result.numbers l in
    let b3 = lane_of c.entries_at-4.result.numbers l in
    let times = baby_bear.mul in
    let plus = baby_bear.add in
    ap (λ t. plus (sum_below baby_bear i f) t)
    (c.add_product.ensures.value l h ∙ ap (λ t. plus t (times a3 b3))
    (c.add_product-three.ensures.value l h ∙ ap (λ t. plus t (times a2 b2))
    (c.add_product-two.ensures.value l h ∙ ap (λ t. plus t (times a1 b1))
    (c.product-first.ensures.value l h))))
    ∙ four_more baby_bear baby_bear_laws.ring i f (times a0 b0) (times a1 b1) (times a2 b2) (times a3 b3)
    (lane_term w factors rows column l i start c.index-factors-i.result a0 b0 (times a0 b0) (omega arith) refl
    (c.broadcast-factor.ensures l h)
    (item factors i c.index-factors-i.result baby_bear.zero (omega arith) c.index-factors-i.is)
    (c.entries_at.ensures l h))
    (lane_term w factors rows column l (i + 1) (start + w) c.index-factors-i-2.result a1 b1 (times a1 b1) (omega arith) refl
    (c.broadcast-factor-2.ensures l h)
    (item factors (i + 1) c.index-factors-i-2.result baby_bear.zero (omega arith) c.index-factors-i-2.is)
    (c.entries_at-2.ensures l h))
    (lane_term w factors rows column l (i + 2) (start + 2 * w) c.index-factors-i-3.result a2 b2 (times a2 b2) (omega arith) refl
    (c.broadcast-factor-3.ensures l h)
    (item factors (i + 2) c.index-factors-i-3.result baby_bear.zero (omega arith) c.index-factors-i-3.is)
    (c.entries_at-3.ensures l h))
    (lane_term w factors rows column l (i + 3) (start + 3 * w) c.index-factors-i-4.result a3 b3 (times a3 b3) (omega arith) refl
    (c.broadcast-factor-4.ensures l h)
    (item factors (i + 3) c.index-factors-i-4.result baby_bear.zero (omega arith) c.index-factors-i-4.is)
    (c.entries_at-4.ensures l h))
