use Rattle.std.proofs.Common.{◌≡◌, ◌≤◌, ◌<◌, ◌+◌, ap, ◌∙◌, arith}
use Rattle.std.specs.Simd.Lanes.{zip2}
use Rattle.std.proofs.lemmas.Simd.{Each1-weaker}
use Rattle.p3_field_core.specs.RowSums.{row_term}
use Rattle.p3_field_core.proofs.TermSums.{eight_more}
use Rattle.algebra.specs.Polynomial.{sum_below}
use Rattle.p3_baby_bear.specs.BabyBear.{baby_bear}
use Rattle.p3_baby_bear.specs.BabyBear4.{baby_bear4, lift4}
use Rattle.p3_baby_bear.specs.BabyBear4Laws.{baby_bear4_laws}
use Rattle.p3_baby_bear.specs.RowSums.{pair_of}
use Rattle.p3_baby_bear.proofs.LaneSteps.{sums_fit, sums_small}
use Rattle.p3_baby_bear.proofs.RowSteps.{four_pairs}
use Rattle.p3_baby_bear.proofs.baby_bear4.row_sums.eight_products_at.Goals as goal

pub returns-clause-value : goal.returns-clause-value
returns-clause-value c =
    let f = row_term baby_bear baby_bear4 lift4 c.args.values.now c.args.row.now in
    let i = c.args.i in
    let p = c.two_products_at-a in
    let q = c.two_products_at-b in
    let r = c.two_products_at-c in
    let t = c.two_products_at-d in
    ap (λ s. baby_bear4.add (sum_below baby_bear4 i f) s)
    (four_pairs p.result q.result r.result t.result (omega arith) (omega arith) (omega arith) (omega arith))
    ∙ eight_more baby_bear4 baby_bear4_laws.ring i f (pair_of p.result) (pair_of q.result) (pair_of r.result) (pair_of t.result)
    p.ensures.value
    (q.ensures.value ∙ ap (λ k. baby_bear4.add (f (i + 2)) (f k)) (let o : i + 2 + 1 ≡ i + 3 = omega arith in o))
    (r.ensures.value ∙ ap (λ k. baby_bear4.add (f (i + 4)) (f k)) (let o : i + 4 + 1 ≡ i + 5 = omega arith in o))
    (t.ensures.value ∙ ap (λ k. baby_bear4.add (f (i + 6)) (f k)) (let o : i + 6 + 1 ≡ i + 7 = omega arith in o))

pub overflow_add-result : goal.overflow_add-result
overflow_add-result c =
    sums_fit 4053239664633446400 4053239664633446400 c.two_products_at-a.result c.two_products_at-b.result (omega arith) c.two_products_at-a.ensures.small c.two_products_at-b.ensures.small

pub overflow_add-result-2 : goal.overflow_add-result-2
overflow_add-result-2 c =
    sums_fit 8106479329266892800 4053239664633446400
    (zip2 (λ m n. m + n) c.two_products_at-a.result c.two_products_at-b.result) c.two_products_at-c.result (omega arith)
    (sums_small 4053239664633446400 4053239664633446400 8106479329266892800 c.two_products_at-a.result c.two_products_at-b.result (omega arith) c.two_products_at-a.ensures.small c.two_products_at-b.ensures.small)
    c.two_products_at-c.ensures.small

pub overflow_add-result-3 : goal.overflow_add-result-3
overflow_add-result-3 c =
    sums_fit 12159718993900339200 4053239664633446400
    (zip2 (λ m n. m + n) (zip2 (λ m n. m + n) c.two_products_at-a.result c.two_products_at-b.result) c.two_products_at-c.result)
    c.two_products_at-d.result (omega arith)
    (sums_small 8106479329266892800 4053239664633446400 12159718993900339200
    (zip2 (λ m n. m + n) c.two_products_at-a.result c.two_products_at-b.result) c.two_products_at-c.result (omega arith)
    (sums_small 4053239664633446400 4053239664633446400 8106479329266892800 c.two_products_at-a.result c.two_products_at-b.result (omega arith) c.two_products_at-a.ensures.small c.two_products_at-b.ensures.small)
    c.two_products_at-c.ensures.small)
    c.two_products_at-d.ensures.small

pub returns-clause-fits : goal.returns-clause-fits
returns-clause-fits c =
    Each1-weaker (λ n. n ≤ 16212958658533785600) (λ n. n < 18446744073709551616) (λ n l. omega (arith, l))
    (zip2 (λ m n. m + n) (zip2 (λ m n. m + n) (zip2 (λ m n. m + n) c.two_products_at-a.result c.two_products_at-b.result) c.two_products_at-c.result) c.two_products_at-d.result)
    (sums_small 12159718993900339200 4053239664633446400 16212958658533785600
    (zip2 (λ m n. m + n) (zip2 (λ m n. m + n) c.two_products_at-a.result c.two_products_at-b.result) c.two_products_at-c.result)
    c.two_products_at-d.result (omega arith)
    (sums_small 8106479329266892800 4053239664633446400 12159718993900339200
    (zip2 (λ m n. m + n) c.two_products_at-a.result c.two_products_at-b.result) c.two_products_at-c.result (omega arith)
    (sums_small 4053239664633446400 4053239664633446400 8106479329266892800 c.two_products_at-a.result c.two_products_at-b.result (omega arith) c.two_products_at-a.ensures.small c.two_products_at-b.ensures.small)
    c.two_products_at-c.ensures.small)
    c.two_products_at-d.ensures.small)
