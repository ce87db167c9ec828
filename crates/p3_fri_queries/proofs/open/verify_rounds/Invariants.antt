use Rattle.std.proofs.Common.{◌≡◌, ℕ, ◌<◌, ◌≤◌, drop}
use Rattle.std.specs.Prelude.{sum}
use Rattle.algebra.specs.Nested.{lists}
use Rattle.p3_fri_relation.specs.Views.{round_opened, rows_collected}
use Rattle.p3_fri_queries.proofs.Heights.{height_before}
use Rattle.p3_fri_queries.proofs.Openings.{OpensAt}
use Rattle.p3_fri_queries.proofs.open.verify_rounds.Given as goal

abbrev pub invariant-loop-round : goal.invariant-loop-round
invariant-loop-round g l = record {
  height : l.log_height ≡ height_before l.log_arities l.log_global_max_height l.round;
  left : sum (drop l.round l.log_arities) ≤ l.log_height;
  low : l.log_height ≤ l.log_global_max_height;
  opened : (k : ℕ) → k < l.round
      → OpensAt (g.M.Mmcs.opens l.mmcs) l.log_arities l.log_global_max_height
      (lists l.folded.group_indices_by_round.items) (rows_collected l.folded.rows_by_round.items) l.commitments
      (λ o. round_opened o) l.openings k;
}
