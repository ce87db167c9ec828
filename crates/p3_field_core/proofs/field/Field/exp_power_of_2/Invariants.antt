use Rattle.std.proofs.Common.{◌≡◌, ◌^◌}
use Rattle.algebra.specs.Field.{pow}
use Rattle.p3_field_core.proofs.field.Field.exp_power_of_2.Given as goal

abbrev pub invariant-loop : goal.invariant-loop
invariant-loop g l = l.power ≡ pow g.Self.Field.ops l.fn.self (2 ^ l.counter)
