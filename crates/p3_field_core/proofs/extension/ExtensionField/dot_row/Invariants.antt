use Rattle.std.proofs.Common.{◌≡◌}
use Rattle.algebra.specs.Polynomial.{sum_below}
use Rattle.p3_field_core.specs.RowSums.{row_term}
use Rattle.p3_field_core.proofs.extension.ExtensionField.dot_row.Given as goal

abbrev pub invariant-loop-i : goal.invariant-loop-i
invariant-loop-i g l =
    l.sum ≡ sum_below g.Self.Field.ops l.i (row_term g.F.Field.ops g.Self.Field.ops
    g.Self.ExtensionField.lift l.values l.row)
