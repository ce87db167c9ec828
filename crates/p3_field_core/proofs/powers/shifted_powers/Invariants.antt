use Rattle.std.proofs.Common.{◌≡◌}
use Rattle.algebra.specs.Field.{pow}
use Rattle.algebra.specs.Polynomial.{tabulate}
use Rattle.p3_field_core.proofs.powers.shifted_powers.Given as goal

abbrev pub invariant-loop : goal.invariant-loop
invariant-loop g l = record {
  powers : l.powers.items ≡ tabulate l.counter
      (λ i. g.F.Field.ops.mul l.fn.first (pow g.F.Field.ops l.fn.base i));
  next : l.power ≡ g.F.Field.ops.mul l.fn.first (pow g.F.Field.ops l.fn.base l.counter);
}
