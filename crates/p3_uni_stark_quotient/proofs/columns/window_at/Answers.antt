use Rattle.std.proofs.Common.{◌+◌, ◌%◌, ap, ◌∙◌}
use Rattle.p3_matrix.specs.Matrix.{rows}
use Rattle.p3_air.specs.Satisfied.{row_at}
use Rattle.p3_uni_stark_quotient.specs.Given.{on_coset, rows_if_any, entries_on}
use Rattle.p3_uni_stark_quotient.proofs.Entries.{entries_same_in, periodic_entry}
use Rattle.p3_uni_stark_quotient.proofs.columns.window_at.Goals as goal

pub returns : goal.returns
returns g c =
    let columns = c.args.columns.now in
    let row = c.args.row in
    let step = c.args.step in
    let there = entries_on (on_coset columns) step row in
    let after = c.row_after-after.ensures ∙ ap (λ h. (row + step) % h) c.height-height.ensures in
    entries_same_in columns.public_values.now c.row-local.result.now there.local
    c.row-next.result.now there.next c.row_or_empty-preprocessed.result.now there.preprocessed
    c.row_or_empty-preprocessed_next.result.now there.preprocessed_next
    c.row_or_empty-periodic.result.now there.periodic c.row-local.ensures.row
    (c.row-next.ensures.row ∙ ap (λ i. row_at (rows columns.trace.now) i) after)
    c.row_or_empty-preprocessed.ensures
    (c.row_or_empty-preprocessed_next.ensures
    ∙ ap (λ i. row_at (rows_if_any columns.preprocessed) i) after)
    (c.row_or_empty-periodic.ensures
    ∙ periodic_entry (rows_if_any columns.periodic) row c.periodic_row-period_row.result
    c.height_of-periods.result c.height_of-periods.ensures c.periodic_row-period_row.ensures)
