use Rattle.std.proofs.Common.{◌≡◌, ◌≤◌, ◌+◌, drop}
use Rattle.std.specs.Prelude.{sum}
use Rattle.p3_fri_queries.proofs.checks.last_height.Given as goal

abbrev pub invariant-loop-log_arity : goal.invariant-loop-log_arity
invariant-loop-log_arity l = record {
  left : sum (drop l.log_arity-index l.log_arities) ≤ l.height;
  others : sum l.log_arities + l.height ≡ l.log_height + sum (drop l.log_arity-index l.log_arities);
}
