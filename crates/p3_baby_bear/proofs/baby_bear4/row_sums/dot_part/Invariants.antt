use Rattle.std.proofs.Common.{◌≡◌, ◌+◌, ◌*◌, length}
use Rattle.algebra.specs.Polynomial.{sum_below}
use Rattle.p3_field_core.specs.RowSums.{row_term}
use Rattle.p3_lanes.specs.Halves.{totals, AreWithin}
use Rattle.p3_baby_bear.specs.BabyBear.{baby_bear}
use Rattle.p3_baby_bear.specs.BabyBear4.{baby_bear4, lift4}
use Rattle.p3_baby_bear.specs.RowSums.{pair_of}
use Rattle.p3_baby_bear.proofs.baby_bear4.row_sums.dot_part.Given as goal

abbrev pub invariant-loop-block : goal.invariant-loop-block
invariant-loop-block l =
    let f = row_term baby_bear baby_bear4 lift4 l.values l.row in
    record {
      value : baby_bear4.add (sum_below baby_bear4 l.start f) (pair_of (totals l.sums.low l.sums.high))
          ≡ sum_below baby_bear4 (l.start + 8 * l.block) f;
      within : AreWithin l.block l.sums.low l.sums.high;
      long : length (totals l.sums.low l.sums.high) ≡ 8;
    }

abbrev pub invariant-loop-i : goal.invariant-loop-i
invariant-loop-i l =
    let f = row_term baby_bear baby_bear4 lift4 l.values l.row in
    baby_bear4.add (sum_below baby_bear4 l.start f) l.sum ≡ sum_below baby_bear4 l.i f
