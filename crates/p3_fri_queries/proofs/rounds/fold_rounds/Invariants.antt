use Rattle.algebra.specs.Nested.{lists}
use Rattle.p3_fri_relation.specs.FoldedQuery.{value_at}
use Rattle.p3_fri_relation.specs.Views.{rows_collected}
use Rattle.p3_fri_queries.specs.Settings.{siblings_in, link_of}
use Rattle.p3_fri_queries.proofs.FoldedRounds.{FoldedTo}
use Rattle.p3_fri_queries.proofs.rounds.fold_rounds.Given as goal

abbrev pub invariant-loop-round : goal.invariant-loop-round
invariant-loop-round g l =
    FoldedTo g.EF.Field.ops (g.S.FriFoldingStrategy.row_fold l.setting.folding.now) (value_at l.inputs)
    l.setting.log_arities.now l.setting.betas.now (siblings_in l.setting l.query) (link_of l.fn.start)
    (lists l.initial.group_indices_by_round) (rows_collected l.initial.rows_by_round)
    l.round (link_of l.link) (lists l.group_indices_by_round) (rows_collected l.rows_by_round)
