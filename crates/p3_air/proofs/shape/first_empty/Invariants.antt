use Rattle.std.proofs.Common.{◌<◌, All, take, length}
use Rattle.algebra.specs.Nested.{lists}
use Rattle.p3_air.proofs.shape.first_empty.Given as goal

abbrev pub invariant-loop-i : goal.invariant-loop-i
invariant-loop-i g l = All (λ column. 0 < length column) (take l.i (lists l.columns))
