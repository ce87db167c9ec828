-- Elements of a quartic extension by lists of coefficients.
use Rattle.std.specs.Prelude.{List, slice_index_or}
use Rattle.algebra.specs.Field.{FieldOps}
use Rattle.algebra.specs.QuarticExtension.{Quartic}

-- the element with these coefficients, that of one first, where there are four
abbrev pub quartic_of_list : {A : Type 0} → FieldOps A → List A → Quartic A
quartic_of_list F xs = record {
  constant = slice_index_or xs 0 F.zero;
  linear = slice_index_or xs 1 F.zero;
  quadratic = slice_index_or xs 2 F.zero;
  cubic = slice_index_or xs 3 F.zero;
}
