use Rattle.std.proofs.Common.{◌≡◌, []}
use Rattle.algebra.specs.Nested.{lists}
use Rattle.algebra.specs.Polynomial.{tabulate}
use Rattle.p3_fri_queries.proofs.fold.empty_lists.Given as goal

abbrev pub invariant-loop : goal.invariant-loop
invariant-loop g l = lists l.vectors.items ≡ tabulate l.counter (λ _. [])
