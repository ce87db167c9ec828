use Rattle.algebra.specs.Polynomial.{tabulate}
use Rattle.std.proofs.Common.{◌≡◌}
use Rattle.p3_fri_inputs.proofs.sums.zeros.Given as goal

abbrev pub invariant-loop : goal.invariant-loop
invariant-loop g l = l.zeros.items ≡ tabulate l.counter (λ _. g.EF.Field.ops.zero)
