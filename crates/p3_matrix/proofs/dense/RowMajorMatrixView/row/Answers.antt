use Rattle.std.proofs.Common.{rules, ◌≤◌, ◌+◌, ◌*◌, length, [], arith}
use Rattle.p3_matrix.proofs.Views.{view_row_within, view_row_is, view_row_length}
use Rattle.p3_matrix.proofs.dense.RowMajorMatrixView.row.Goals as goal

pub overflow_mul-start : goal.overflow_mul-start
overflow_mul-start g c = omega (arith, view_row_within c.args.self.now c.args.index c.requires.below_height)

pub overflow_add-result : goal.overflow_add-result
overflow_add-result g c = omega (arith, view_row_within c.args.self.now c.args.index c.requires.below_height)

pub offset_bounds-self-start : goal.offset_bounds-self-start
offset_bounds-self-start g c = omega (arith, view_row_within c.args.self.now c.args.index c.requires.below_height)

pub slice_bounds-result-end : goal.slice_bounds-result-end
slice_bounds-result-end g c =
    let within : c.args.index * c.args.self.now.width + c.args.self.now.width ≤ length c.args.self.now.values.now = view_row_within c.args.self.now c.args.index c.requires.below_height in
    search rules

pub returns-clause-row : goal.returns-clause-row
returns-clause-row g c = view_row_is c.args.self.now c.args.index c.requires.below_height []

pub returns-clause-width : goal.returns-clause-width
returns-clause-width g c = view_row_length c.args.self.now c.args.index c.requires.below_height
