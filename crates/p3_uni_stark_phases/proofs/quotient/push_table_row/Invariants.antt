use Rattle.std.proofs.Common.{◌≡◌, ◌++◌, take}
use Rattle.p3_periodic.specs.Tables.{table_row}
use Rattle.p3_periodic.specs.Views.{table_rows}
use Rattle.p3_uni_stark_phases.proofs.quotient.push_table_row.Given as goal

abbrev pub invariant-loop-column : goal.invariant-loop-column
invariant-loop-column g l = l.values.items
    ≡ l.fn.values.items ++ take l.column (table_row (table_rows l.fn.table) l.fn.row)
