use Rattle.std.proofs.Common.{◌≡◌, drop}
use Rattle.p3_periodic.specs.Columns.{greatest_period}
use Rattle.p3_periodic.proofs.columns.greatest_length.Given as goal

abbrev pub invariant-loop-k : goal.invariant-loop-k
invariant-loop-k g l = l.greatest ≡ greatest_period (drop l.k l.table)
