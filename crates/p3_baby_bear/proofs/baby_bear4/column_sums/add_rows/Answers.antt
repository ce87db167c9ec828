use Rattle.std.proofs.Common.{◌+◌, ◌-◌, ◌*◌, ◌/◌, length, get_or, sym, ap, ◌∙◌, arith}
use Rattle.algebra.specs.Polynomial.{sum_below}
use Rattle.p3_field_core.specs.RowSums.{column_term}
use Rattle.p3_field_core.proofs.TermSums.{sum_none}
use Rattle.p3_field_core.proofs.ColumnSums.{two_parts}
use Rattle.p3_baby_bear.specs.BabyBear.{baby_bear}
use Rattle.p3_baby_bear.specs.BabyBear4.{baby_bear4, lift4}
use Rattle.p3_baby_bear.specs.BabyBear4Laws.{baby_bear4_laws}
use Rattle.p3_baby_bear.proofs.baby_bear4.column_sums.add_rows.Goals as goal

pub loop-block-init : goal.loop-block-init
loop-block-init c k d l =
    let x = get_or c.args.sums.now k d in
    sym (baby_bear4_laws.ring.add_zero x) ∙ ap (λ s. baby_bear4.add x s)
    (sum_none baby_bear4 baby_bear4_laws.ring (column_term baby_bear baby_bear4 lift4
    (length c.args.sums.now) c.args.weights.now c.args.rows.now k))

pub loop-block-preserved : goal.loop-block-preserved
loop-block-preserved c k d l =
    let s = 128 * c.loop-block.block in
    two_parts baby_bear4 baby_bear4_laws.ring s (s + 128 - s) (128 * (c.loop-block.block + 1))
    (column_term baby_bear baby_bear4 lift4 (length c.args.sums.now) c.args.weights.now c.args.rows.now k)
    (get_or c.args.sums.now k d) (get_or c.loop-block.sums k d) (get_or c.add_part.new.sums k d)
    (omega arith) (c.loop-block.invariant k d l)
    (c.add_part.ensures k d (omega arith)
    ∙ ap (λ w. baby_bear4.add (get_or c.loop-block.sums k d) (sum_below baby_bear4 (s + 128 - s) (λ i.
    column_term baby_bear baby_bear4 lift4 w c.args.weights.now c.args.rows.now k (s + i)))) (omega arith))

pub returns : goal.returns
returns c k d l =
    let s = 128 * (length c.args.weights.now / 128) in
    two_parts baby_bear4 baby_bear4_laws.ring s (length c.args.weights.now - s) (length c.args.weights.now)
    (column_term baby_bear baby_bear4 lift4 (length c.args.sums.now) c.args.weights.now c.args.rows.now k)
    (get_or c.args.sums.now k d) (get_or c.loop-block.sums k d) (get_or c.add_part-2.new.sums k d)
    (omega arith)
    (c.loop-block.invariant k d l ∙ ap (λ n. baby_bear4.add (get_or c.args.sums.now k d) (sum_below baby_bear4 n (column_term baby_bear baby_bear4 lift4 (length c.args.sums.now) c.args.weights.now c.args.rows.now k))) (omega arith))
    (c.add_part-2.ensures k d (omega arith)
    ∙ ap (λ w. baby_bear4.add (get_or c.loop-block.sums k d) (sum_below baby_bear4 (length c.args.weights.now - s) (λ i.
    column_term baby_bear baby_bear4 lift4 w c.args.weights.now c.args.rows.now k (s + i)))) (omega arith))
