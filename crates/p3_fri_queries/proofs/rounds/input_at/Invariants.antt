use Rattle.std.proofs.Common.{◌≡◌, drop}
use Rattle.p3_fri_relation.specs.FoldedQuery.{value_at}
use Rattle.p3_fri_queries.proofs.rounds.input_at.Given as goal

abbrev pub invariant-loop-input : goal.invariant-loop-input
invariant-loop-input g l =
    value_at l.inputs l.log_height ≡ value_at (drop l.input-index l.inputs) l.log_height
