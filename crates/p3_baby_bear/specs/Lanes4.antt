-- Elements of the extension in lanes.
use Rattle.std.specs.Prelude.{ℕ}
use Rattle.p3_baby_bear.specs.declared.baby_bear4.BabyBear4.{BabyBear4}
use Rattle.p3_baby_bear.specs.declared.baby_bear4.lanes.BabyBear4x8Lanes.{BabyBear4x8Lanes}
use Rattle.p3_baby_bear.specs.Lanes.{lane_of}

-- the element in lane `l`, by its coefficients' lanes
abbrev pub lane4_of : (x : BabyBear4x8Lanes) (l : ℕ) → BabyBear4
lane4_of x l = record {
  constant = lane_of x.constant.numbers l;
  linear = lane_of x.linear.numbers l;
  quadratic = lane_of x.quadratic.numbers l;
  cubic = lane_of x.cubic.numbers l;
}
