use Rattle.std.proofs.Common.{◌≡◌, ◌<◌, ◌≤◌, ◌*◌, ℕ, get_or, length}
use Rattle.algebra.specs.Polynomial.{sum_below}
use Rattle.p3_field_core.specs.RowSums.{column_term}
use Rattle.p3_baby_bear.specs.declared.baby_bear4.BabyBear4.{BabyBear4}
use Rattle.p3_baby_bear.specs.BabyBear.{baby_bear}
use Rattle.p3_baby_bear.specs.BabyBear4.{baby_bear4, lift4}
use Rattle.p3_baby_bear.proofs.baby_bear4.column_sums.add_block.Given as goal

abbrev pub invariant-loop-group : goal.invariant-loop-group
invariant-loop-group l = record {
  added : (k : ℕ) (d : BabyBear4) → k < 8 * l.group → get_or l.sums k d
      ≡ baby_bear4.add (get_or l.fn.sums k d) (sum_below baby_bear4 (length l.weights)
      (column_term baby_bear baby_bear4 lift4 (length l.fn.sums) l.weights l.rows k));
  others : (k : ℕ) (d : BabyBear4) → 8 * l.group ≤ k → get_or l.sums k d ≡ get_or l.fn.sums k d;
}

abbrev pub invariant-loop-j : goal.invariant-loop-j
invariant-loop-j l = record {
  added : (k : ℕ) (d : BabyBear4) → k < l.j → get_or l.sums k d
      ≡ baby_bear4.add (get_or l.fn.sums k d) (sum_below baby_bear4 (length l.weights)
      (column_term baby_bear baby_bear4 lift4 (length l.fn.sums) l.weights l.rows k));
  others : (k : ℕ) (d : BabyBear4) → l.j ≤ k → get_or l.sums k d ≡ get_or l.fn.sums k d;
}
