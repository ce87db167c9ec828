use Rattle.std.proofs.Common.{◌≡◌}
use Rattle.algebra.specs.Polynomial.{tabulate}
use Rattle.p3_uni_stark_quotient.proofs.lanes.reset.Given as goal

abbrev pub invariant-loop : goal.invariant-loop
invariant-loop g l = l.sums.items ≡ tabulate l.counter (λ _. g.EF.Field.ops.zero)
