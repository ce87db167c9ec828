use Rattle.std.proofs.Common.{◌≡◌, map, take}
use Rattle.algebra.specs.Nested.{lists}
use Rattle.fri_numbers.proofs.claims.all_numbers.Given as goal

abbrev pub invariant-loop-point : goal.invariant-loop-point
invariant-loop-point g l =
    lists l.all.items ≡ map g.N.Numbered.numbers_of (take l.point-index l.points)
