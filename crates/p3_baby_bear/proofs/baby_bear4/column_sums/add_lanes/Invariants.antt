use Rattle.std.proofs.Common.{◌≡◌, ◌<◌, ◌≤◌, ◌+◌, ℕ, get_or}
use Rattle.p3_baby_bear.specs.declared.baby_bear4.BabyBear4.{BabyBear4}
use Rattle.p3_baby_bear.specs.BabyBear4.{baby_bear4}
use Rattle.p3_baby_bear.specs.Lanes4.{lane4_of}
use Rattle.p3_baby_bear.proofs.baby_bear4.column_sums.add_lanes.Given as goal

abbrev pub invariant-loop-l : goal.invariant-loop-l
invariant-loop-l l = record {
  here : (k : ℕ) (d : BabyBear4) → k < l.l → get_or l.sums (l.column + k) d
      ≡ baby_bear4.add (get_or l.initial.sums (l.column + k) d) (lane4_of l.gained k);
  before : (j : ℕ) (d : BabyBear4) → j < l.column → get_or l.sums j d ≡ get_or l.initial.sums j d;
  after : (j : ℕ) (d : BabyBear4) → l.column + l.l ≤ j
      → get_or l.sums j d ≡ get_or l.initial.sums j d;
}
