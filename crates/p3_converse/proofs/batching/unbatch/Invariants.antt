use Rattle.std.proofs.Common.{◌≡◌}
use Rattle.algebra.specs.Polynomial.{tabulate}
use Rattle.p3_converse.specs.Positions.{stepped}
use Rattle.algebra.specs.Nested.{lists}
use Rattle.p3_converse.proofs.batching.unbatch.Given as goal

abbrev pub invariant-loop-s : goal.invariant-loop-s
invariant-loop-s g l = lists l.unbatched.items ≡ tabulate l.s (λ s. stepped g.EF.Field.ops l.entries.items s l.count l.degree_bound)
