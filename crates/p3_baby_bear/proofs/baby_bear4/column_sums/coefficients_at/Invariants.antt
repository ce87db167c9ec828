use Rattle.std.proofs.Common.{◌≡◌, ◌<◌, ℕ, length, get_or}
use Rattle.p3_baby_bear.specs.BabyBear.{baby_bear}
use Rattle.p3_baby_bear.specs.BabyBear4.{baby_bear4, coefficients4}
use Rattle.p3_baby_bear.proofs.baby_bear4.column_sums.coefficients_at.Given as goal

abbrev pub invariant-loop-i : goal.invariant-loop-i
invariant-loop-i l = record {
  value : (k : ℕ) → k < l.i → get_or l.coefficients k baby_bear.zero
      ≡ get_or (coefficients4 (get_or l.weights k baby_bear4.zero)) l.index baby_bear.zero;
  long : length l.coefficients ≡ 128;
}
