use Rattle.std.proofs.Common.{ℕ, ◌<◌}
use Rattle.p3_air.specs.Satisfied.{HoldAtRow}
use Rattle.p3_air.specs.Shapes.{assigned}
use Rattle.p3_air.proofs.air.Air.check_trace.Given as goal

abbrev pub invariant-loop-row : goal.invariant-loop-row
invariant-loop-row g l =
    (i : ℕ) → i < l.row → HoldAtRow g.F.Field.ops l.self (assigned l.given) i
