use Rattle.std.proofs.Common.{◌≡◌, ◌≤◌, drop}
use Rattle.std.specs.Prelude.{sum}
use Rattle.p3_fri_relation.specs.FoldedQuery.{reaches}
use Rattle.p3_fri_queries.proofs.checks.is_reached.Given as goal

abbrev pub invariant-loop-log_arity : goal.invariant-loop-log_arity
invariant-loop-log_arity l = record {
  left : sum (drop l.log_arity-index l.log_arities) ≤ l.height;
  same : reaches l.log_arities l.log_height l.wanted ≡ reaches (drop l.log_arity-index l.log_arities) l.height l.wanted;
}
