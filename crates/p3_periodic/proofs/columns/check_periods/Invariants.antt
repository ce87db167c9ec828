use Rattle.std.proofs.Common.{All, take}
use Rattle.p3_periodic.specs.Columns.{HasPeriod}
use Rattle.p3_periodic.proofs.columns.check_periods.Given as goal

abbrev pub invariant-loop-i : goal.invariant-loop-i
invariant-loop-i g l = All (HasPeriod l.trace_height) (take l.i l.table)
