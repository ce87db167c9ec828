-- Elements in lanes.
use Rattle.std.specs.Prelude.{ℕ, List, slice_index_or}
use Rattle.p3_baby_bear.specs.declared.baby_bear.BabyBear.{BabyBear}
use Rattle.p3_baby_bear.specs.BabyBear.{element}

-- the element of the number in lane `l`
abbrev pub lane_of : (numbers : List ℕ) (l : ℕ) → BabyBear
lane_of numbers l = element (slice_index_or numbers l 0)
