use Rattle.std.proofs.Common.{ℕ, ◌<◌, [], ◌∷◌}
use Rattle.algebra.specs.Nested.{lists}
use Rattle.p3_fri_relation.specs.FoldedQuery.{IsInOrder}
use Rattle.p3_fri_queries.specs.Folded.{query_at}
use Rattle.p3_fri_queries_tests.proofs.queries.assert_in_order.Given as goal

abbrev pub invariant-loop-query : goal.invariant-loop-query
invariant-loop-query g l = (j : ℕ) → j < l.query
    → IsInOrder (query_at l.positions l.betas (1 ∷ 1 ∷ []) l.openings (lists l.inputs) 4 2 j)
