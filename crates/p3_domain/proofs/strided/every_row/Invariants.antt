use Rattle.std.proofs.Common.{◌≡◌, ◌+◌, ◌*◌, [], slice_index_or}
use Rattle.algebra.specs.Nested.{joined}
use Rattle.algebra.specs.Polynomial.{tabulate}
use Rattle.p3_matrix.specs.Matrix.{rows}
use Rattle.p3_domain.proofs.strided.every_row.Given as goal

-- the rows so far
abbrev pub invariant-loop-index : goal.invariant-loop-index
invariant-loop-index g l = l.values.items ≡ joined (tabulate l.index
    (λ j. slice_index_or (rows l.fn.matrix) (l.fn.start + j * l.fn.step) []))
