use Rattle.std.proofs.Common.{◌≡◌, map, take}
use Rattle.fri_numbers.proofs.elements.read_points.Given as goal

abbrev pub invariant-loop-index : goal.invariant-loop-index
invariant-loop-index g l =
    map g.N.Numbered.numbers_of l.values.items ≡ map (λ numbers. numbers.items) (take l.index l.lists)
