use Rattle.std.proofs.Common.{◌%◌, length, arith, ap, ◌∙◌}
use Rattle.p3_matrix.specs.Matrix.{view_rows}
use Rattle.p3_matrix.specs.Rows.{rows_of}
use Rattle.p3_matrix.proofs.Views.{view_at_within}
use Rattle.p3_matrix.proofs.Cuts.{cut_within, whole_first, whole_rest, rows_of-take, rows_of-drop}
use Rattle.p3_matrix.proofs.dense.RowMajorMatrixView.split_rows.Goals as goal

pub overflow_mul-at : goal.overflow_mul-at
overflow_mul-at g c = let v = c.args.self.now in omega (arith, cut_within v.width v.has_columns v.values.now v.whole_rows c.args.at (view_at_within v c.args.at c.requires.within))

pub split_at-requires : goal.split_at-requires
split_at-requires g c = let v = c.args.self.now in cut_within v.width v.has_columns v.values.now v.whole_rows c.args.at (view_at_within v c.args.at c.requires.within)

pub invariant_of-result : goal.invariant_of-result
invariant_of-result g c =
    let v = c.args.self.now in record {
      has_columns = v.has_columns;
      whole_rows = ap (λ xs. length xs % v.width) c.split_at.ensures.front ∙ whole_first v.width v.has_columns v.values.now v.whole_rows c.args.at (view_at_within v c.args.at c.requires.within);
    }

pub invariant_of-result-2 : goal.invariant_of-result-2
invariant_of-result-2 g c =
    let v = c.args.self.now in record {
      has_columns = v.has_columns;
      whole_rows = ap (λ xs. length xs % v.width) c.split_at.ensures.back ∙ whole_rest v.width v.has_columns v.values.now v.whole_rows c.args.at (view_at_within v c.args.at c.requires.within);
    }

pub returns-clause-first : goal.returns-clause-first
unfolding view_rows
returns-clause-first g c =
    let v = c.args.self.now in
    ap (λ xs. rows_of v.width xs) c.split_at.ensures.front ∙ rows_of-take v.width v.has_columns v.values.now v.whole_rows c.args.at (view_at_within v c.args.at c.requires.within)

pub returns-clause-others : goal.returns-clause-others
unfolding view_rows
returns-clause-others g c =
    let v = c.args.self.now in
    ap (λ xs. rows_of v.width xs) c.split_at.ensures.back ∙ rows_of-drop v.width v.has_columns v.values.now v.whole_rows c.args.at (view_at_within v c.args.at c.requires.within)
