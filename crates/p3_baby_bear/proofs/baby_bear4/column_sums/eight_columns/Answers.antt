use Rattle.std.proofs.Common.{◌≤◌, ◌<◌, ◌≡◌, ◌+◌, ◌*◌, ◌/◌, length, get_or, refl, ap, ap₂, ◌∙◌, arith}
use Rattle.std.proofs.lemmas.Simd.{Each1-weaker}
use Rattle.algebra.specs.Field.{multiple}
use Rattle.algebra.specs.Polynomial.{sum_below}
use Rattle.p3_field_core.specs.RowSums.{column_term}
use Rattle.p3_field_core.proofs.TermSums.{sum_none, one_more, item}
use Rattle.p3_lanes.specs.Halves.{totals}
use Rattle.p3_lanes.proofs.HalfLists.{within_weaker}
use Rattle.p3_baby_bear.specs.BabyBear.{baby_bear}
use Rattle.p3_baby_bear.specs.BabyBearLaws.{baby_bear_laws}
use Rattle.p3_baby_bear.specs.Lanes.{lane_of}
use Rattle.p3_baby_bear.proofs.LaneSteps.{canonical_map, lane_rest, sum_counts}
use Rattle.p3_baby_bear.proofs.RowSteps.{added_long}
use Rattle.p3_baby_bear.proofs.ColumnSteps.{none_counts, lane_term}
use Rattle.p3_baby_bear.proofs.baby_bear4.column_sums.eight_columns.Goals as goal

pub loop-four-init : goal.loop-four-init
loop-four-init c =
    let none = c.no_halves-sums in
    record {
      value = λ k h. none_counts (totals none.result.low none.result.high) k h none.ensures.value
          ∙ sum_none baby_bear baby_bear_laws.ring (column_term baby_bear baby_bear (λ x. x)
          c.args.width c.args.factors.now c.args.rows.now (c.args.column + k));
      within = none.ensures.within;
      long = ap length none.ensures.value;
    }

pub add_halves-sums-requires-clause-room : goal.add_halves-sums-requires-clause-room
add_halves-sums-requires-clause-room c =
    within_weaker c.loop-four.four 4294967295 c.loop-four.sums.low c.loop-four.sums.high (omega arith) c.loop-four.invariant.within

pub loop-four-preserved : goal.loop-four-preserved
loop-four-preserved c =
    let here = totals c.loop-four.sums.low c.loop-four.sums.high in
    let more = c.four_rows_at.result in
    let m8 : length more ≡ 8 = omega arith in
    let four = c.loop-four.four in
    let before = c.loop-four.invariant in
    record {
      value = λ k h.
          ap (λ ns. multiple baby_bear (get_or ns k 0)) c.add_halves-sums.ensures.value
          ∙ sum_counts here more k h before.long m8
          ∙ ap (λ t. baby_bear.add t (multiple baby_bear (get_or more k 0))) (before.value k h)
          ∙ c.four_rows_at.ensures.value k h
          ∙ ap (λ n. sum_below baby_bear n (column_term baby_bear baby_bear (λ x. x)
          c.args.width c.args.factors.now c.args.rows.now (c.args.column + k))) (omega arith);
      within = c.add_halves-sums.ensures.within four before.within;
      long = ap length c.add_halves-sums.ensures.value ∙ added_long here more before.long m8;
    }

pub loop-i-init : goal.loop-i-init
loop-i-init c =
    let before = c.loop-four.invariant in
    record {
      value = λ k h. before.value k h ∙ ap (λ n. sum_below baby_bear n (column_term baby_bear baby_bear (λ x. x)
          c.args.width c.args.factors.now c.args.rows.now (c.args.column + k))) (omega arith);
      within = within_weaker c.loop-four.four (4 * (length c.args.factors.now / 4)) c.loop-four.sums.low c.loop-four.sums.high (omega arith) before.within;
      long = before.long;
    }

pub add_halves-sums-requires-in-loop-i-clause-room : goal.add_halves-sums-requires-in-loop-i-clause-room
add_halves-sums-requires-in-loop-i-clause-room c =
    within_weaker c.loop-i.i 4294967295 c.loop-i.sums.low c.loop-i.sums.high (omega arith) c.loop-i.invariant.within

pub add_halves-sums-requires-in-loop-i-clause-numbers : goal.add_halves-sums-requires-in-loop-i-clause-numbers
add_halves-sums-requires-in-loop-i-clause-numbers c =
    Each1-weaker (λ n. n ≤ 4053239664633446400) (λ n. n < 18446744073709551616)
    (λ n l. omega (arith, l)) c.product.result c.product.ensures.small

pub loop-i-preserved : goal.loop-i-preserved
loop-i-preserved c =
    let here = totals c.loop-i.sums.low c.loop-i.sums.high in
    let more = c.product.result in
    let m8 : length more ≡ 8 = omega arith in
    let before = c.loop-i.invariant in
    let w = c.args.width in
    let factors = c.args.factors.now in
    let rows = c.args.rows.now in
    let column = c.args.column in
    let i = c.loop-i.i in
    record {
      value = λ k h.
          let f = column_term baby_bear baby_bear (λ x. x) w factors rows (column + k) in
          let a = lane_of c.broadcast-factor.result.numbers k in
          let b = lane_of c.entries_at.result.numbers k in
          ap (λ ns. multiple baby_bear (get_or ns k 0)) c.add_halves-sums-in-loop-i.ensures.value
          ∙ sum_counts here more k h before.long m8
          ∙ ap₂ baby_bear.add (before.value k h) (c.product.ensures.value k h)
          ∙ one_more baby_bear baby_bear_laws.ring i f (sum_below baby_bear i f) (baby_bear.mul a b) refl
          (lane_term w factors rows column k i (i * w + column) c.index-factors-i.result a b (baby_bear.mul a b) (omega arith) refl
          (c.broadcast-factor.ensures k h)
          (item factors i c.index-factors-i.result baby_bear.zero (omega arith) c.index-factors-i.is)
          (c.entries_at.ensures k h));
      within = c.add_halves-sums-in-loop-i.ensures.within i before.within;
      long = ap length c.add_halves-sums-in-loop-i.ensures.value ∙ added_long here more before.long m8;
    }

pub reduced_halves-requires : goal.reduced_halves-requires
reduced_halves-requires c =
    within_weaker c.loop-i.i 4294967296 c.loop-i.sums.low c.loop-i.sums.high (omega arith) c.loop-i.invariant.within

pub invariant_of-result : goal.invariant_of-result
invariant_of-result c =
    record { canonical = λ l. rw c.reduced_halves.ensures (canonical_map (λ n. n) (totals c.loop-i.sums.low c.loop-i.sums.high) l) }

pub returns : goal.returns
returns c l h =
    ap (λ ns. lane_of ns l) c.reduced_halves.ensures
    ∙ lane_rest (totals c.loop-i.sums.low c.loop-i.sums.high) l h c.loop-i.invariant.long
    ∙ c.loop-i.invariant.value l h
    ∙ ap (λ n. sum_below baby_bear n (column_term baby_bear baby_bear (λ x. x)
    c.args.width c.args.factors.now c.args.rows.now (c.args.column + l))) (omega arith)
