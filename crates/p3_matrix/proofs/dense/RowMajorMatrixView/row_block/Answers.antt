use Rattle.std.proofs.Common.{rules, ◌≤◌, ◌*◌, length, arith}
use Rattle.p3_matrix.specs.Matrix.{view_rows, view_width}
use Rattle.p3_matrix.proofs.Views.{view_at_within}
use Rattle.p3_matrix.proofs.Cuts.{block_order, block_within, length-block, rows_of-block}
use Rattle.p3_matrix.proofs.dense.RowMajorMatrixView.row_block.Goals as goal

pub overflow_mul-result : goal.overflow_mul-result
overflow_mul-result g c =
    let v = c.args.self.now in
    let end = view_at_within v c.args.end c.requires.within in
    omega (
      arith,
      block_order v.width v.has_columns v.values.now v.whole_rows c.args.first c.args.end c.requires.order end,
      block_within v.width v.has_columns v.values.now v.whole_rows c.args.first c.args.end c.requires.order end,
    )

pub overflow_mul-result-2 : goal.overflow_mul-result-2
overflow_mul-result-2 g c =
    let v = c.args.self.now in
    omega (arith, block_within v.width v.has_columns v.values.now v.whole_rows c.args.first c.args.end c.requires.order (view_at_within v c.args.end c.requires.within))

pub offset_bounds-self-first : goal.offset_bounds-self-first
offset_bounds-self-first g c =
    let v = c.args.self.now in
    let end = view_at_within v c.args.end c.requires.within in
    omega (
      arith,
      block_order v.width v.has_columns v.values.now v.whole_rows c.args.first c.args.end c.requires.order end,
      block_within v.width v.has_columns v.values.now v.whole_rows c.args.first c.args.end c.requires.order end,
    )

pub slice_bounds-result-end : goal.slice_bounds-result-end
slice_bounds-result-end g c =
    let v = c.args.self.now in
    let end = view_at_within v c.args.end c.requires.within in
    let order : c.args.first * v.width ≤ c.args.end * v.width = block_order v.width v.has_columns v.values.now v.whole_rows c.args.first c.args.end c.requires.order end in
    let within : c.args.end * v.width ≤ length v.values.now = block_within v.width v.has_columns v.values.now v.whole_rows c.args.first c.args.end c.requires.order end in
    search rules

pub returns-clause-rows : goal.returns-clause-rows
unfolding view_rows view_width
returns-clause-rows g c =
    let v = c.args.self.now in
    rows_of-block v.width v.has_columns v.values.now v.whole_rows c.args.first c.args.end c.requires.order (view_at_within v c.args.end c.requires.within)

pub returns-clause-len : goal.returns-clause-len
unfolding view_width
returns-clause-len g c =
    let v = c.args.self.now in
    length-block v.width v.has_columns v.values.now v.whole_rows c.args.first c.args.end c.requires.order (view_at_within v c.args.end c.requires.within)
