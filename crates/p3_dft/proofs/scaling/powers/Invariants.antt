use Rattle.std.proofs.Common.{◌≡◌}
use Rattle.algebra.specs.Field.{pow}
use Rattle.algebra.specs.Polynomial.{tabulate}
use Rattle.p3_dft.proofs.scaling.powers.Given as goal

abbrev pub invariant-loop : goal.invariant-loop
invariant-loop g l = record {
  powers : l.powers.items ≡ tabulate l.counter (λ i. pow g.F.Field.ops l.base i);
  power : l.power ≡ pow g.F.Field.ops l.base l.counter;
}
