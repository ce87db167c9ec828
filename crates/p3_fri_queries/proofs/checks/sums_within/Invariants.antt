use Rattle.std.proofs.Common.{◌≡◌, ◌≤◌, ◌+◌, drop}
use Rattle.std.specs.Prelude.{sum}
use Rattle.p3_fri_queries.proofs.checks.sums_within.Given as goal

abbrev pub invariant-loop-log_arity : goal.invariant-loop-log_arity
invariant-loop-log_arity l = record {
  below : l.left ≤ l.limit;
  others : sum l.log_arities + l.left ≡ l.limit + sum (drop l.log_arity-index l.log_arities);
}
