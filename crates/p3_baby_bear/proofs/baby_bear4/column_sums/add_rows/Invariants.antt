use Rattle.std.proofs.Common.{◌≡◌, ◌<◌, ◌*◌, ℕ, get_or, length}
use Rattle.algebra.specs.Polynomial.{sum_below}
use Rattle.p3_field_core.specs.RowSums.{column_term}
use Rattle.p3_baby_bear.specs.declared.baby_bear4.BabyBear4.{BabyBear4}
use Rattle.p3_baby_bear.specs.BabyBear.{baby_bear}
use Rattle.p3_baby_bear.specs.BabyBear4.{baby_bear4, lift4}
use Rattle.p3_baby_bear.proofs.baby_bear4.column_sums.add_rows.Given as goal

abbrev pub invariant-loop-block : goal.invariant-loop-block
invariant-loop-block l =
    (k : ℕ) (d : BabyBear4) → k < length l.fn.sums → get_or l.sums k d
    ≡ baby_bear4.add (get_or l.fn.sums k d) (sum_below baby_bear4 (128 * l.block)
    (column_term baby_bear baby_bear4 lift4 (length l.fn.sums) l.weights l.rows k))
