use Rattle.std.proofs.Common.{◌≤◌, ◌+◌, ◌*◌, length, refl, ap, ap₂, ◌∙◌, arith}
use Rattle.std.proofs.Math.Nat.{mul-le-mul_right}
use Rattle.algebra.specs.Polynomial.{sum_below}
use Rattle.p3_field_core.specs.RowSums.{column_term}
use Rattle.p3_field_core.proofs.TermSums.{sum_none, one_more, item}
use Rattle.p3_field_core.proofs.ColumnSums.{term_is}
use Rattle.p3_baby_bear.specs.declared.baby_bear.BabyBear.{BabyBear}
use Rattle.p3_baby_bear.specs.declared.baby_bear4.BabyBear4.{BabyBear4}
use Rattle.p3_baby_bear.specs.BabyBear.{baby_bear}
use Rattle.p3_baby_bear.specs.BabyBearLaws.{same_number}
use Rattle.p3_baby_bear.specs.BabyBear4.{baby_bear4, lift4}
use Rattle.p3_baby_bear.specs.BabyBear4Laws.{baby_bear4_laws, zero4_is, same_coefficients}
use Rattle.p3_baby_bear.proofs.ColumnSteps.{four_more, item_at}
use Rattle.p3_baby_bear.proofs.baby_bear4.column_sums.one_column.Goals as goal

pub loop-four-init : goal.loop-four-init
loop-four-init c =
    same_coefficients (same_number _ _ refl) (same_number _ _ refl) (same_number _ _ refl) (same_number _ _ refl)
    ∙ zero4_is ∙ sum_none baby_bear4 baby_bear4_laws.ring (column_term baby_bear baby_bear4 lift4
    c.args.width c.args.weights.now c.args.rows.now c.args.column)

pub bounds-rows-start-in-loop-four : goal.bounds-rows-start-in-loop-four
bounds-rows-start-in-loop-four c =
    omega (
      arith,
      c.requires.rows,
      mul-le-mul_right c.args.width
          (let o : 4 * c.loop-four.four + 4 ≤ length c.args.weights.now = omega arith in o),
    )

pub bounds-rows-start-in-loop-four-2 : goal.bounds-rows-start-in-loop-four-2
bounds-rows-start-in-loop-four-2 c =
    omega (
      arith,
      c.requires.rows,
      mul-le-mul_right c.args.width
          (let o : 4 * c.loop-four.four + 4 ≤ length c.args.weights.now = omega arith in o),
    )

pub bounds-rows-start-in-loop-four-3 : goal.bounds-rows-start-in-loop-four-3
bounds-rows-start-in-loop-four-3 c =
    omega (
      arith,
      c.requires.rows,
      mul-le-mul_right c.args.width
          (let o : 4 * c.loop-four.four + 4 ≤ length c.args.weights.now = omega arith in o),
    )

pub loop-four-preserved : goal.loop-four-preserved
loop-four-preserved c =
    let w = c.args.width in
    let weights = c.args.weights.now in
    let rows = c.args.rows.now in
    let j = c.args.column in
    let i = 4 * c.loop-four.four in
    let f = column_term baby_bear baby_bear4 lift4 w weights rows j in
    let reach = mul-le-mul_right w (let o : i + 4 ≤ length weights = omega arith in o) in
    let times = λ (a : BabyBear4) (x : BabyBear). baby_bear4.mul a (lift4 x) in
    let w0 = c.index-weights-i in
    let w1 = c.index-weights-i-in-loop-four in
    let w2 = c.index-weights-i-in-loop-four-2 in
    let w3 = c.index-weights-i-in-loop-four-3 in
    let r0 = c.index-rows-start in
    let r1 = c.index-rows-start-in-loop-four in
    let r2 = c.index-rows-start-in-loop-four-2 in
    let r3 = c.index-rows-start-in-loop-four-3 in
    c.add-sum.ensures ∙ ap₂ baby_bear4.add c.loop-four.invariant c.four_scaled.ensures
    ∙ four_more baby_bear4 baby_bear4_laws.ring i f
    (times w0.result r0.result) (times w1.result r1.result) (times w2.result r2.result) (times w3.result r3.result)
    (term_is baby_bear baby_bear4 lift4 w weights rows j i (times w0.result r0.result) w0.result r0.result refl
    (item weights i w0.result baby_bear4.zero (omega arith) w0.is)
    (item rows (i * w + j) r0.result baby_bear.zero (omega (arith, c.requires.rows, reach)) r0.is))
    (term_is baby_bear baby_bear4 lift4 w weights rows j (i + 1) (times w1.result r1.result) w1.result r1.result refl
    (item weights (i + 1) w1.result baby_bear4.zero (omega arith) w1.is)
    (item_at rows (i * w + j + w) ((i + 1) * w + j) r1.result (omega arith) (omega (arith, c.requires.rows, reach)) r1.is))
    (term_is baby_bear baby_bear4 lift4 w weights rows j (i + 2) (times w2.result r2.result) w2.result r2.result refl
    (item weights (i + 2) w2.result baby_bear4.zero (omega arith) w2.is)
    (item_at rows (i * w + j + 2 * w) ((i + 2) * w + j) r2.result (omega arith) (omega (arith, c.requires.rows, reach)) r2.is))
    (term_is baby_bear baby_bear4 lift4 w weights rows j (i + 3) (times w3.result r3.result) w3.result r3.result refl
    (item weights (i + 3) w3.result baby_bear4.zero (omega arith) w3.is)
    (item_at rows (i * w + j + 3 * w) ((i + 3) * w + j) r3.result (omega arith) (omega (arith, c.requires.rows, reach)) r3.is))
    ∙ ap (λ n. sum_below baby_bear4 n f) (omega arith)

pub loop-i-preserved : goal.loop-i-preserved
loop-i-preserved c =
    let w = c.args.width in
    let weights = c.args.weights.now in
    let rows = c.args.rows.now in
    let j = c.args.column in
    let i = c.loop-i.i in
    let weight = c.index-weights-i-in-loop-i in
    let entry = c.index-rows-i in
    c.add-sum-in-loop-i.ensures
    ∙ one_more baby_bear4 baby_bear4_laws.ring i (column_term baby_bear baby_bear4 lift4 w weights rows j)
    c.loop-i.sum c.scale.result c.loop-i.invariant
    (term_is baby_bear baby_bear4 lift4 w weights rows j i c.scale.result weight.result entry.result c.scale.ensures
    (item weights i weight.result baby_bear4.zero (omega arith) weight.is)
    (item rows (i * w + j) entry.result baby_bear.zero
    (omega (arith, c.requires.rows, mul-le-mul_right w (let o : i + 1 ≤ length weights = omega arith in o))) entry.is))
