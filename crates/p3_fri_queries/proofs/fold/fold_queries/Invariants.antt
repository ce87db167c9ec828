use Rattle.std.proofs.Common.{length}
use Rattle.algebra.specs.Nested.{lists}
use Rattle.p3_fri_relation.specs.Setting.{Fields}
use Rattle.p3_fri_relation.specs.Views.{rows_collected}
use Rattle.p3_fri_queries.specs.Settings.{queries_in}
use Rattle.p3_fri_queries.proofs.Queries.{FoldedUpTo}
use Rattle.p3_fri_queries.proofs.fold.fold_queries.Given as goal

abbrev pub fields_of : (g : goal.Over) → Fields g.row.F.Denot g.row.EF.Denot
fields_of g = record {
  base = g.F.Field.ops;
  ext = g.EF.Field.ops;
  lift = g.EF.ExtensionField.lift;
  coefficients = g.EF.ExtensionField.coefficients;
  degree = g.EF.ExtensionField.DIMENSION;
  root = g.F.TwoAdicField.root;
  two_adicity = g.F.TwoAdicField.TWO_ADICITY;
  shift = g.F.Field.GENERATOR;
}

abbrev pub invariant-loop-query : goal.invariant-loop-query
invariant-loop-query g l =
    FoldedUpTo (fields_of g) (g.S.FriFoldingStrategy.row_fold l.setting.folding.now) l.final_poly l.setting.log_arities.now l.positions
    (queries_in l.setting l.positions (lists l.fn.reduced_openings.items))
    (length l.yielded) (lists l.folded.group_indices_by_round.items) (rows_collected l.folded.rows_by_round.items)
