use Rattle.std.proofs.Common.{◌<◌, ℕ, ◌+◌, ◌*◌, length, get_or, ap₂, ◌∙◌, arith}
use Rattle.algebra.specs.Polynomial.{sum_below}
use Rattle.p3_field_core.specs.RowSums.{column_term}
use Rattle.p3_baby_bear.specs.BabyBear.{baby_bear}
use Rattle.p3_baby_bear.specs.BabyBear4.{baby_bear4, lift4}
use Rattle.p3_baby_bear.specs.BabyBear4Laws.{same_coefficients}
use Rattle.p3_baby_bear.proofs.ColumnSteps.{constants_of_column, linears_of_column, quadratics_of_column, cubics_of_column, added_by_eight}
use Rattle.p3_baby_bear.proofs.baby_bear4.column_sums.add_block.Goals as goal

pub loop-group-preserved : goal.loop-group-preserved
loop-group-preserved c =
    let old = c.args.sums.now in
    let here = c.loop-group.sums in
    let new = c.add_lanes.new.sums in
    let g = c.loop-group.group in
    let w = length old in
    let n = length c.args.weights.now in
    let weights = c.args.weights.now in
    let rows = c.args.rows.now in
    let gain = λ (k : ℕ). sum_below baby_bear4 n (column_term baby_bear baby_bear4 lift4 w weights rows k) in
    let before = c.loop-group.invariant in
    let gained = λ (l : ℕ) (h : l < 8).
    same_coefficients
    (c.eight_columns.ensures l h
    ∙ constants_of_column n w weights c.coefficients_at-constants.result rows (8 * g + l) (omega arith) c.coefficients_at-constants.ensures)
    (c.eight_columns-in-loop-group.ensures l h
    ∙ linears_of_column n w weights c.coefficients_at-linears.result rows (8 * g + l) (omega arith) c.coefficients_at-linears.ensures)
    (c.eight_columns-in-loop-group-2.ensures l h
    ∙ quadratics_of_column n w weights c.coefficients_at-quadratics.result rows (8 * g + l) (omega arith) c.coefficients_at-quadratics.ensures)
    (c.eight_columns-in-loop-group-3.ensures l h
    ∙ cubics_of_column n w weights c.coefficients_at-cubics.result rows (8 * g + l) (omega arith) c.coefficients_at-cubics.ensures) in
    record {
      added = λ k d h. added_by_eight (λ k. get_or new k d) (λ k. baby_bear4.add (get_or old k d) (gain k)) g
          (λ k l. c.add_lanes.ensures.before k d l ∙ before.added k d l)
          (λ l m. c.add_lanes.ensures.here l d m
          ∙ ap₂ baby_bear4.add (before.others (8 * g + l) d (omega arith)) (gained l m)) k h;
      others = λ k d h. c.add_lanes.ensures.after k d (omega (arith, h)) ∙ before.others k d (omega (arith, h));
    }
