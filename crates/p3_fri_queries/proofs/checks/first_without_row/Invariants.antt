use Rattle.std.proofs.Common.{◌↔◌, drop}
use Rattle.p3_fri_relation.specs.FoldedQuery.{AreInRange, HaveRows}
use Rattle.p3_fri_relation.specs.Views.{siblings_opened}
use Rattle.p3_fri_queries.proofs.checks.first_without_row.Given as goal

abbrev pub invariant-loop-round : goal.invariant-loop-round
invariant-loop-round g l = record {
  range : AreInRange (drop l.round l.log_arities);
  same : HaveRows l.query l.log_arities (siblings_opened l.openings)
      ↔ HaveRows l.query (drop l.round l.log_arities) (siblings_opened (drop l.round l.openings));
}
