use Rattle.std.proofs.Common.{◌≡◌, ◌≤◌, ◌+◌, ◌-◌, ◌^◌, min, drop}
use Rattle.std.specs.Prelude.{sum}
use Rattle.p3_fri_queries.proofs.checks.saturated_sum.Given as goal

abbrev pub invariant-loop-log_arity : goal.invariant-loop-log_arity
invariant-loop-log_arity l = record {
  fits : l.total ≤ 2 ^ 64 - 1;
  same : min (l.total + sum (drop l.log_arity-index l.log_arities)) (2 ^ 64 - 1) ≡ min (sum l.log_arities) (2 ^ 64 - 1);
}
