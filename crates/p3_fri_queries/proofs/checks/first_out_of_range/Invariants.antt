use Rattle.std.proofs.Common.{◌↔◌, drop}
use Rattle.p3_fri_relation.specs.FoldedQuery.{AreInRange}
use Rattle.p3_fri_queries.proofs.checks.first_out_of_range.Given as goal

abbrev pub invariant-loop-round : goal.invariant-loop-round
invariant-loop-round l = AreInRange l.log_arities ↔ AreInRange (drop l.round l.log_arities)
