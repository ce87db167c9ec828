use Rattle.std.proofs.Common.{◌≡◌, ◌*◌}
use Rattle.algebra.specs.Polynomial.{sum_below}
use Rattle.p3_field_core.specs.RowSums.{column_term}
use Rattle.p3_baby_bear.specs.BabyBear.{baby_bear}
use Rattle.p3_baby_bear.specs.BabyBear4.{baby_bear4, lift4}
use Rattle.p3_baby_bear.proofs.baby_bear4.column_sums.one_column.Given as goal

abbrev pub invariant-loop-four : goal.invariant-loop-four
invariant-loop-four l =
    l.sum ≡ sum_below baby_bear4 (4 * l.four)
    (column_term baby_bear baby_bear4 lift4 l.width l.weights l.rows l.column)

abbrev pub invariant-loop-i : goal.invariant-loop-i
invariant-loop-i l =
    l.sum ≡ sum_below baby_bear4 l.i
    (column_term baby_bear baby_bear4 lift4 l.width l.weights l.rows l.column)
