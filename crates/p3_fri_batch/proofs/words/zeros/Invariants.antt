use Rattle.std.proofs.Common.{◌≡◌}
use Rattle.algebra.specs.Polynomial.{tabulate}
use Rattle.p3_fri_batch.proofs.words.zeros.Given as goal

abbrev pub invariant-loop : goal.invariant-loop
invariant-loop g l = l.values.items ≡ tabulate l.counter (λ _. g.EF.Field.ops.zero)
