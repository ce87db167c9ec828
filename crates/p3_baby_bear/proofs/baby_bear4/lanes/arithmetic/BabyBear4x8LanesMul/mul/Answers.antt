use Rattle.std.proofs.Common.{◌≤◌, ℕ, List, ap₂, ◌∙◌, arith}
use Rattle.std.specs.Simd.Lanes.{Each1}
use Rattle.std.proofs.lemmas.Simd.{Each1-weaker}
use Rattle.p3_baby_bear.specs.BabyBear.{baby_bear, element}
use Rattle.p3_baby_bear.specs.BabyBear4.{baby_bear4}
use Rattle.p3_baby_bear.specs.BabyBear4Laws.{same_coefficients}
use Rattle.p3_baby_bear.proofs.baby_bear4.lanes.arithmetic.BabyBear4x8LanesMul.mul.Goals as goal

-- up to three products
at_most : (most : ℕ) (ns : List ℕ) → most ≤ 12159718993900339200 → Each1 (λ n. n ≤ most) ns
    → Each1 (λ n. n ≤ 12159718993900339200) ns
at_most most ns e t = Each1-weaker (λ n. n ≤ most) (λ n. n ≤ 12159718993900339200) (λ n l. omega (arith, l, e)) ns t

pub add_product-fourth-requires-2 : goal.add_product-fourth-requires-2
add_product-fourth-requires-2 c =
    at_most 8106479329266892800 c.add_product-fourth.result (omega arith) (c.add_product-fourth.ensures.small 4053239664633446400 c.product-fourth.ensures.small)

pub add_product-fifth-requires : goal.add_product-fifth-requires
add_product-fifth-requires c =
    at_most 4053239664633446400 c.product-fifth.result (omega arith) c.product-fifth.ensures.small

pub add_product-linear-requires : goal.add_product-linear-requires
add_product-linear-requires c =
    at_most 4053239664633446400 c.product-linear.result (omega arith) c.product-linear.ensures.small

pub add_product-quadratic-requires : goal.add_product-quadratic-requires
add_product-quadratic-requires c =
    at_most 4053239664633446400 c.product-quadratic.result (omega arith) c.product-quadratic.ensures.small

pub add_product-quadratic-requires-2 : goal.add_product-quadratic-requires-2
add_product-quadratic-requires-2 c =
    at_most 8106479329266892800 c.add_product-quadratic.result (omega arith) (c.add_product-quadratic.ensures.small 4053239664633446400 c.product-quadratic.ensures.small)

pub add_product-cubic-requires : goal.add_product-cubic-requires
add_product-cubic-requires c =
    at_most 4053239664633446400 c.product-cubic.result (omega arith) c.product-cubic.ensures.small

pub add_product-cubic-requires-2 : goal.add_product-cubic-requires-2
add_product-cubic-requires-2 c =
    at_most 8106479329266892800 c.add_product-cubic.result (omega arith) (c.add_product-cubic.ensures.small 4053239664633446400 c.product-cubic.ensures.small)

pub with_eleven-requires-clause-once : goal.with_eleven-requires-clause-once
with_eleven-requires-clause-once c =
    at_most 4053239664633446400 c.product.result (omega arith) c.product.ensures.small

pub with_eleven-requires-clause-eleven : goal.with_eleven-requires-clause-eleven
with_eleven-requires-clause-eleven c =
    at_most 12159718993900339200 c.add_product-fourth-2.result (omega arith) (c.add_product-fourth-2.ensures.small 8106479329266892800 (c.add_product-fourth.ensures.small 4053239664633446400 c.product-fourth.ensures.small))

pub with_eleven-requires-2-clause-once : goal.with_eleven-requires-2-clause-once
with_eleven-requires-2-clause-once c =
    at_most 8106479329266892800 c.add_product-linear.result (omega arith) (c.add_product-linear.ensures.small 4053239664633446400 c.product-linear.ensures.small)

pub with_eleven-requires-2-clause-eleven : goal.with_eleven-requires-2-clause-eleven
with_eleven-requires-2-clause-eleven c =
    at_most 8106479329266892800 c.add_product-fifth.result (omega arith) (c.add_product-fifth.ensures.small 4053239664633446400 c.product-fifth.ensures.small)

pub with_eleven-requires-3-clause-once : goal.with_eleven-requires-3-clause-once
with_eleven-requires-3-clause-once c =
    at_most 12159718993900339200 c.add_product-quadratic-2.result (omega arith) (c.add_product-quadratic-2.ensures.small 8106479329266892800 (c.add_product-quadratic.ensures.small 4053239664633446400 c.product-quadratic.ensures.small))

pub with_eleven-requires-3-clause-eleven : goal.with_eleven-requires-3-clause-eleven
with_eleven-requires-3-clause-eleven c =
    at_most 4053239664633446400 c.product-sixth.result (omega arith) c.product-sixth.ensures.small

pub add_product-requires : goal.add_product-requires
add_product-requires c =
    at_most 12159718993900339200 c.add_product-cubic-2.result (omega arith) (c.add_product-cubic-2.ensures.small 8106479329266892800 (c.add_product-cubic.ensures.small 4053239664633446400 c.product-cubic.ensures.small))

pub reduced-requires : goal.reduced-requires
reduced-requires c =
    c.add_product.ensures.small 12159718993900339200 (c.add_product-cubic-2.ensures.small 8106479329266892800 (c.add_product-cubic.ensures.small 4053239664633446400 c.product-cubic.ensures.small))

pub returns : goal.returns
unfolding baby_bear4
returns c l within =
    same_coefficients
    (c.with_eleven.ensures l within
    ∙ ap₂ (λ x y. baby_bear.add x (baby_bear.mul (element 11) y)) (c.product.ensures.value l within)
    (simp (c.add_product-fourth-2.ensures.value l within, c.add_product-fourth.ensures.value l within, c.product-fourth.ensures.value l within)))
    (c.with_eleven-2.ensures l within
    ∙ ap₂ (λ x y. baby_bear.add x (baby_bear.mul (element 11) y))
    (simp (c.add_product-linear.ensures.value l within, c.product-linear.ensures.value l within))
    (simp (c.add_product-fifth.ensures.value l within, c.product-fifth.ensures.value l within)))
    (c.with_eleven-3.ensures l within
    ∙ ap₂ (λ x y. baby_bear.add x (baby_bear.mul (element 11) y))
    (simp (c.add_product-quadratic-2.ensures.value l within, c.add_product-quadratic.ensures.value l within, c.product-quadratic.ensures.value l within))
    (c.product-sixth.ensures.value l within))
    (c.reduced.ensures l within
    ∙ simp (c.add_product.ensures.value l within, c.add_product-cubic-2.ensures.value l within, c.add_product-cubic.ensures.value l within, c.product-cubic.ensures.value l within))
