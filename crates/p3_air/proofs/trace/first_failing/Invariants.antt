use Rattle.std.proofs.Common.{All, take}
use Rattle.p3_air.specs.Satisfied.{HoldsOn}
use Rattle.p3_air.proofs.trace.first_failing.Given as goal

abbrev pub invariant-loop-i : goal.invariant-loop-i
invariant-loop-i g l =
    All (HoldsOn g.F.Field.ops l.height l.row l.values) (take l.i l.constraints)
