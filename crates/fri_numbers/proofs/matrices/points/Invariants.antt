use Rattle.std.proofs.Common.{◌≡◌, length, map, take}
use Rattle.algebra.specs.Nested.{lists}
use Rattle.fri_numbers.proofs.matrices.points.Given as goal

abbrev pub invariant-loop-index : goal.invariant-loop-index
invariant-loop-index g l = record {
  count : length l.all.items ≡ l.index;
  numbers : map g.N.Numbered.numbers_of l.all.items ≡ lists (take l.index l.matrix.points.items);
}
