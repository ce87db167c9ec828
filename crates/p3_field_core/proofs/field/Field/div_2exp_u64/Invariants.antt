use Rattle.std.proofs.Common.{◌≡◌, ◌^◌}
use Rattle.algebra.specs.Field.{multiple}
use Rattle.p3_field_core.proofs.field.Field.div_2exp_u64.Given as goal

abbrev pub invariant-loop : goal.invariant-loop
invariant-loop g l =
    g.Self.Field.ops.mul (multiple g.Self.Field.ops (2 ^ l.counter)) l.quotient ≡ l.fn.self
