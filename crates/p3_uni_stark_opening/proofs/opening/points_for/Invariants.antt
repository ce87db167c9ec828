use Rattle.std.proofs.Common.{◌≡◌, replicate}
use Rattle.algebra.specs.Nested.{lists}
use Rattle.p3_uni_stark_opening.proofs.opening.points_for.Given as goal

abbrev pub invariant-loop-index : goal.invariant-loop-index
invariant-loop-index g l = lists l.all.items ≡ replicate l._index l.points
