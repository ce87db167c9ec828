use Rattle.std.proofs.Common.{◌≡◌, take}
use Rattle.algebra.specs.Nested.{lists}
use Rattle.p3_air.specs.Satisfied.{periodic_at}
use Rattle.p3_air.proofs.trace.periodic_into.Given as goal

abbrev pub invariant-loop-i : goal.invariant-loop-i
invariant-loop-i g l =
    l.values.items ≡ take l.i (periodic_at g.F.Field.ops (lists l.columns) l.row)
