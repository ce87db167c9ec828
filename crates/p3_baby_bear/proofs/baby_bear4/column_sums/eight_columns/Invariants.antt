use Rattle.std.proofs.Common.{◌≡◌, ◌<◌, ◌+◌, ◌*◌, ℕ, length, get_or}
use Rattle.algebra.specs.Field.{multiple}
use Rattle.algebra.specs.Polynomial.{sum_below}
use Rattle.p3_field_core.specs.RowSums.{column_term}
use Rattle.p3_lanes.specs.Halves.{totals, AreWithin}
use Rattle.p3_baby_bear.specs.BabyBear.{baby_bear}
use Rattle.p3_baby_bear.proofs.baby_bear4.column_sums.eight_columns.Given as goal

abbrev pub invariant-loop-four : goal.invariant-loop-four
invariant-loop-four l = record {
  value : (k : ℕ) → k < 8 → multiple baby_bear (get_or (totals l.sums.low l.sums.high) k 0)
      ≡ sum_below baby_bear (4 * l.four)
      (column_term baby_bear baby_bear (λ x. x) l.width l.factors l.rows (l.column + k));
  within : AreWithin l.four l.sums.low l.sums.high;
  long : length (totals l.sums.low l.sums.high) ≡ 8;
}

abbrev pub invariant-loop-i : goal.invariant-loop-i
invariant-loop-i l = record {
  value : (k : ℕ) → k < 8 → multiple baby_bear (get_or (totals l.sums.low l.sums.high) k 0)
      ≡ sum_below baby_bear l.i
      (column_term baby_bear baby_bear (λ x. x) l.width l.factors l.rows (l.column + k));
  within : AreWithin l.i l.sums.low l.sums.high;
  long : length (totals l.sums.low l.sums.high) ≡ 8;
}
