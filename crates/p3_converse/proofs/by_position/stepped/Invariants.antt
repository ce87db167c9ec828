use Rattle.std.proofs.Common.{◌≡◌}
use Rattle.p3_converse.specs.Positions.{stepped}
use Rattle.p3_converse.proofs.by_position.stepped.Given as goal

abbrev pub invariant-loop-m : goal.invariant-loop-m
invariant-loop-m g l = l.picked.items ≡ stepped g.F.Field.ops l.entries l.start l.step l.m
