use Rattle.std.proofs.Common.{◌≡◌, map, take}
use Rattle.p3_periodic.proofs.evaluator.lift_column.Given as goal

abbrev pub invariant-loop-i : goal.invariant-loop-i
invariant-loop-i g l = l.lifted.items ≡ map g.EF.ExtensionField.lift (take l.i l.column)
