use Rattle.std.proofs.Common.{◌≡◌, ◌*◌}
use Rattle.algebra.specs.Polynomial.{sum_below}
use Rattle.p3_field_core.specs.RowSums.{row_term}
use Rattle.p3_baby_bear.specs.BabyBear.{baby_bear}
use Rattle.p3_baby_bear.specs.BabyBear4.{baby_bear4, lift4}
use Rattle.p3_baby_bear.proofs.baby_bear4.row_sums.dot.Given as goal

abbrev pub invariant-loop-part : goal.invariant-loop-part
invariant-loop-part l =
    l.sum ≡ sum_below baby_bear4 (65536 * l.part) (row_term baby_bear baby_bear4 lift4 l.values l.row)
