use Rattle.std.proofs.Common.{◌≡◌, ◌^◌}
use Rattle.algebra.specs.Field.{multiple}
use Rattle.p3_dft.proofs.scaling.inverse_of_size.Given as goal

abbrev pub invariant-loop : goal.invariant-loop
invariant-loop g l = g.F.Field.ops.mul (multiple g.F.Field.ops (2 ^ l.counter)) l.inverse ≡ g.F.Field.ops.one
