use Rattle.std.proofs.Common.{◌≡◌}
use Rattle.algebra.specs.Nested.{joined}
use Rattle.algebra.specs.Polynomial.{tabulate}
use Rattle.p3_periodic.specs.Tables.{table_row}
use Rattle.p3_periodic.specs.Views.{table_rows}
use Rattle.p3_uni_stark_phases.proofs.quotient.table_matrix.Given as goal

-- the rows so far
abbrev pub invariant-loop-row : goal.invariant-loop-row
invariant-loop-row g l =
    l.values.items ≡ joined (tabulate l.row (table_row (table_rows l.fn.table)))
