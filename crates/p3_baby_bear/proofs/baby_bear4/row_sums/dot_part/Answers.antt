use Rattle.std.proofs.Common.{length, ap, ap₂, sym, ◌∙◌, arith}
use Rattle.algebra.specs.Polynomial.{sum_below}
use Rattle.p3_field_core.specs.RowSums.{row_term}
use Rattle.p3_field_core.proofs.TermSums.{sum_next, item}
use Rattle.p3_lanes.specs.Halves.{totals}
use Rattle.p3_lanes.proofs.HalfLists.{within_weaker}
use Rattle.p3_baby_bear.specs.BabyBear.{baby_bear}
use Rattle.p3_baby_bear.specs.BabyBear4.{baby_bear4, lift4}
use Rattle.p3_baby_bear.specs.BabyBear4Laws.{baby_bear4_laws}
use Rattle.p3_baby_bear.specs.RowSums.{pair_of}
use Rattle.p3_baby_bear.proofs.RowSteps.{pair_added, pair_none, added_long}
use Rattle.p3_baby_bear.proofs.baby_bear4.row_sums.dot_part.Goals as goal

pub loop-block-init : goal.loop-block-init
loop-block-init c =
    let f = row_term baby_bear baby_bear4 lift4 c.args.values.now c.args.row.now in
    let s = sum_below baby_bear4 c.args.start f in
    record {
      value = ap (λ p. baby_bear4.add s p) (pair_none (totals c.no_halves-sums.result.low c.no_halves-sums.result.high) c.no_halves-sums.ensures.value)
          ∙ baby_bear4_laws.ring.add_zero s
          ∙ ap (λ n. sum_below baby_bear4 n f) (omega arith);
      within = c.no_halves-sums.ensures.within;
      long = ap length c.no_halves-sums.ensures.value;
    }

pub add_halves-sums-requires-clause-room : goal.add_halves-sums-requires-clause-room
add_halves-sums-requires-clause-room c =
    within_weaker c.loop-block.block 4294967295 c.loop-block.sums.low c.loop-block.sums.high (omega arith) c.loop-block.invariant.within

pub loop-block-preserved : goal.loop-block-preserved
loop-block-preserved c =
    let f = row_term baby_bear baby_bear4 lift4 c.args.values.now c.args.row.now in
    let s = sum_below baby_bear4 c.args.start f in
    let here = c.loop-block.sums in
    let more = c.eight_products_at.result in
    record {
      value = ap (λ ns. baby_bear4.add s (pair_of ns)) c.add_halves-sums.ensures.value
          ∙ ap (λ p. baby_bear4.add s p) (pair_added (totals here.low here.high) more c.loop-block.invariant.long (omega arith))
          ∙ sym (baby_bear4_laws.ring.add_assoc s (pair_of (totals here.low here.high)) (pair_of more))
          ∙ ap (λ t. baby_bear4.add t (pair_of more)) c.loop-block.invariant.value
          ∙ c.eight_products_at.ensures.value
          ∙ ap (λ n. sum_below baby_bear4 n f) (omega arith);
      within = c.add_halves-sums.ensures.within c.loop-block.block c.loop-block.invariant.within;
      long = ap length c.add_halves-sums.ensures.value
          ∙ added_long (totals here.low here.high) more c.loop-block.invariant.long (omega arith);
    }

pub reduced_pair-sum-requires : goal.reduced_pair-sum-requires
reduced_pair-sum-requires c =
    within_weaker c.loop-block.block 4294967296 c.loop-block.sums.low c.loop-block.sums.high (omega arith) c.loop-block.invariant.within

pub loop-i-init : goal.loop-i-init
loop-i-init c =
    let f = row_term baby_bear baby_bear4 lift4 c.args.values.now c.args.row.now in
    ap (λ p. baby_bear4.add (sum_below baby_bear4 c.args.start f) p) c.reduced_pair-sum.ensures
    ∙ c.loop-block.invariant.value ∙ ap (λ n. sum_below baby_bear4 n f) (omega arith)

pub loop-i-preserved : goal.loop-i-preserved
loop-i-preserved c =
    let f = row_term baby_bear baby_bear4 lift4 c.args.values.now c.args.row.now in
    let s = sum_below baby_bear4 c.args.start f in
    let i = c.loop-i.i in
    ap (λ t. baby_bear4.add s t) (c.add-sum.ensures ∙ ap (λ t. baby_bear4.add c.loop-i.sum t)
    (c.scale.ensures ∙ ap₂ (λ a b. baby_bear4.mul a (lift4 b))
    (item c.args.values.now i c.index-values-i.result baby_bear4.zero (omega arith) c.index-values-i.is)
    (item c.args.row.now i c.index-row-i.result baby_bear.zero (omega arith) c.index-row-i.is)))
    ∙ sym (baby_bear4_laws.ring.add_assoc s c.loop-i.sum (f i))
    ∙ ap (λ t. baby_bear4.add t (f i)) c.loop-i.invariant
    ∙ sym (sum_next baby_bear4 baby_bear4_laws.ring i f)

pub returns : goal.returns
returns c =
    c.loop-i.invariant ∙ ap (λ n. sum_below baby_bear4 n (row_term baby_bear baby_bear4 lift4 c.args.values.now c.args.row.now)) (omega arith)
