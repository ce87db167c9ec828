use Rattle.std.proofs.Common.{ℕ, ◌↔◌, drop, map}
use Rattle.p3_fri_relation.specs.FoldedQuery.{reaches, AreMet}
use Rattle.p3_fri_relation.specs.Faults.{IsUnmet}
use Rattle.p3_fri_queries.proofs.checks.first_unmet.Given as goal

abbrev pub invariant-loop-k : goal.invariant-loop-k
invariant-loop-k g l =
    let met = reaches l.log_arities l.log_height in
    let all = map (λ input. input.0) l.inputs in
    let left = map (λ input. input.0) (drop l.k l.inputs) in
    record {
      same : AreMet met l.log_height all ↔ AreMet met l.last left;
      unmet : (next remaining : ℕ) → IsUnmet met next remaining l.last left → IsUnmet met next remaining l.log_height all;
    }
