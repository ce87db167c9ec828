-- Elements of the extension whose coefficients' numbers lie in lanes.
use Rattle.std.specs.Prelude.{ℕ, ◌+◌, List, slice_index_or}
use Rattle.algebra.specs.Field.{multiple}
use Rattle.p3_baby_bear.specs.declared.baby_bear4.BabyBear4.{BabyBear4}
use Rattle.p3_baby_bear.specs.BabyBear.{baby_bear}

-- the sum of two elements, whose coefficients the first four lanes count, and the last four
abbrev pub pair_of : (numbers : List ℕ) → BabyBear4
pair_of numbers = record {
  constant = multiple baby_bear (slice_index_or numbers 0 0 + slice_index_or numbers 4 0);
  linear = multiple baby_bear (slice_index_or numbers 1 0 + slice_index_or numbers 5 0);
  quadratic = multiple baby_bear (slice_index_or numbers 2 0 + slice_index_or numbers 6 0);
  cubic = multiple baby_bear (slice_index_or numbers 3 0 + slice_index_or numbers 7 0);
}
