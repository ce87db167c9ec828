use Rattle.std.proofs.Common.{◌≡◌, [], map, take, get_or}
use Rattle.algebra.specs.Nested.{lists, nested}
use Rattle.p3_uni_stark_opening.proofs.opening.first_of_each.Given as goal

abbrev pub invariant-loop-index : goal.invariant-loop-index
invariant-loop-index g l =
    lists l.all.items ≡ map (λ points. get_or points 0 []) (take l.index (nested l.matrices))
