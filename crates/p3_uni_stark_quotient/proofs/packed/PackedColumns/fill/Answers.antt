use Rattle.std.proofs.Common.{◌≡◌, ◌<◌, ◌+◌, ◌%◌, length, sym, ap, ap₂, subst, ◌∙◌, arith}
use Rattle.std.proofs.Math.Nat.{mod-eq_of_lt}
use Rattle.p3_matrix.specs.Matrix.{rows}
use Rattle.p3_air.specs.Satisfied.{row_at}
use Rattle.p3_air.specs.Shapes.{HasWidths}
use Rattle.p3_uni_stark_quotient.specs.Given.{on_coset, rows_if_any, entries_on}
use Rattle.p3_uni_stark_quotient.specs.Lanes.{in_lane}
use Rattle.p3_uni_stark_quotient.proofs.ByLanes.{packed_widths, wrapped_entry, some_row}
use Rattle.p3_uni_stark_quotient.proofs.Entries.{entries_same_in, fits_widths, trace_width, preprocessed_width}
use Rattle.p3_uni_stark_quotient.proofs.Entries.{periodic_width}
use Rattle.std.proofs.lemmas.Result.{IfOk-from_err}
use Rattle.p3_uni_stark_quotient.proofs.packed.PackedColumns.fill.Goals as goal

pub returns-clause-entries : goal.returns-clause-entries
returns-clause-entries g c l within =
    let columns = c.args.columns.now in
    let lane = g.P.PackedField.lane in
    let first = c.args.first in
    let step = c.args.step in
    let trace = rows columns.trace.now in
    let fixed = rows_if_any columns.preprocessed in
    let size = c.height-size.result in
    let height : size ≡ length trace = c.height-size.ensures in
    let there = entries_on (on_coset columns) step (first + l) in
    let inside : first + l < size = omega (arith, within, height, c.requires.rows) in
    let here : (first + l) % size ≡ first + l = mod-eq_of_lt inside in
    let next : (first + step + l) % size ≡ (first + l + step) % length trace =
    ap₂ (λ m n. m % n) (let e : first + step + l ≡ first + l + step = omega arith in e) height in
    entries_same_in columns.public_values.now
    (in_lane lane l c.pack_rows.new.packed.items) there.local
    (in_lane lane l c.pack_rows-2.new.packed.items) there.next
    (in_lane lane l c.pack_rows-3.new.packed.items) there.preprocessed
    (in_lane lane l c.pack_rows-4.new.packed.items) there.preprocessed_next
    (in_lane lane l c.pack_rows-5.new.packed.items) there.periodic
    (c.in_ok-pack_rows.ensures l within ∙ ap (λ i. row_at trace i) here)
    (c.in_ok-pack_rows-2.ensures l within ∙ ap (λ i. row_at trace i) next)
    (c.in_ok-pack_rows-3.ensures l within ∙ ap (λ i. row_at fixed i) here)
    (c.in_ok-pack_rows-4.ensures l within ∙ ap (λ i. row_at fixed i) next)
    (c.in_ok-pack_rows-5.ensures l within
    ∙ wrapped_entry (rows_if_any columns.periodic) (first + l) c.max-period.result
    c.height_of.result c.height_of.ensures c.max-period.ensures)

pub returns-clause-widths : goal.returns-clause-widths
returns-clause-widths g c =
    let columns = c.args.columns.now in
    let layout = c.args.layout.now in
    let given = on_coset columns in
    let lane = g.P.PackedField.lane in
    let some = g.met.P.PackedField.width_law in
    packed_widths lane 0 layout _
    (subst (λ e. HasWidths layout e) (sym (returns-clause-entries g c 0 some))
    (fits_widths layout (length given.trace) c.args.step given c.requires.fits (c.args.first + 0)
    (omega (arith, some, c.requires.rows))))

-- where nothing is answered nothing is said of the answer
pub returns-in_err-pack_rows-2-clause-widths : goal.returns-in_err-pack_rows-2-clause-widths
returns-in_err-pack_rows-2-clause-widths g c =
    IfOk-from_err c.from_residual-in_err-pack_rows-2.result _ c.from_residual-in_err-pack_rows-2.ensures.0

pub returns-in_err-pack_rows-3-clause-widths : goal.returns-in_err-pack_rows-3-clause-widths
returns-in_err-pack_rows-3-clause-widths g c =
    IfOk-from_err c.from_residual-in_err-pack_rows-3.result _ c.from_residual-in_err-pack_rows-3.ensures.0

pub returns-in_err-pack_rows-4-clause-widths : goal.returns-in_err-pack_rows-4-clause-widths
returns-in_err-pack_rows-4-clause-widths g c =
    IfOk-from_err c.from_residual-in_err-pack_rows-4.result _ c.from_residual-in_err-pack_rows-4.ensures.0

pub returns-in_err-pack_rows-5-clause-widths : goal.returns-in_err-pack_rows-5-clause-widths
returns-in_err-pack_rows-5-clause-widths g c =
    IfOk-from_err c.from_residual-in_err-pack_rows-5.result _ c.from_residual-in_err-pack_rows-5.ensures.0

pub pack_rows-requires-2-clause-width : goal.pack_rows-requires-2-clause-width
pack_rows-requires-2-clause-width g c l within =
    let given = on_coset c.args.columns.now in
    let size = length given.trace in
    subst (λ n. length (row_at given.trace ((c.args.first + c.args.step + l) % n)) ≡ c.args.layout.now.width)
    (sym c.height-size.ensures)
    (trace_width c.args.layout.now size c.args.step given c.requires.fits ((c.args.first + c.args.step + l))
    (some_row c.args.first g.P.PackedField.WIDTH l size within c.requires.rows))

pub pack_rows-requires-3-clause-width : goal.pack_rows-requires-3-clause-width
pack_rows-requires-3-clause-width g c l within =
    let given = on_coset c.args.columns.now in
    let size = length given.trace in
    subst (λ n. length (row_at given.preprocessed ((c.args.first + l) % n)) ≡ c.args.layout.now.preprocessed_width)
    (sym c.height-size.ensures)
    (preprocessed_width c.args.layout.now size c.args.step given c.requires.fits ((c.args.first + l))
    (some_row c.args.first g.P.PackedField.WIDTH l size within c.requires.rows))

pub pack_rows-requires-4-clause-width : goal.pack_rows-requires-4-clause-width
pack_rows-requires-4-clause-width g c l within =
    let given = on_coset c.args.columns.now in
    let size = length given.trace in
    subst (λ n. length (row_at given.preprocessed ((c.args.first + c.args.step + l) % n)) ≡ c.args.layout.now.preprocessed_width)
    (sym c.height-size.ensures)
    (preprocessed_width c.args.layout.now size c.args.step given c.requires.fits ((c.args.first + c.args.step + l))
    (some_row c.args.first g.P.PackedField.WIDTH l size within c.requires.rows))

pub pack_rows-requires-5-clause-width : goal.pack_rows-requires-5-clause-width
pack_rows-requires-5-clause-width g c l within =
    let given = on_coset c.args.columns.now in
    periodic_width c.args.layout.now (length given.trace) c.args.step given c.requires.fits
    (c.args.first + l) c.max-period.result c.height_of.result c.height_of.ensures
    c.max-period.ensures
