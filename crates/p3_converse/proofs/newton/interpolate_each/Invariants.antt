use Rattle.std.proofs.Common.{length}
use Rattle.algebra.specs.Interpolation.{interpolant}
use Rattle.p3_converse.specs.Positions.{part}
use Rattle.p3_converse.proofs.Concatenated.{IsWrittenUpTo}
use Rattle.p3_converse.proofs.newton.interpolate_each.Given as goal

abbrev pub invariant-loop-m : goal.invariant-loop-m
invariant-loop-m g l = IsWrittenUpTo (length l.points) l.count l.initial.values (λ m. interpolant g.F.Field.ops l.points (part l.initial.values m (length l.points))) l.m l.values
