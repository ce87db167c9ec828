use Rattle.std.proofs.Common.{◌≡◌, ◌%◌, All, length, sym, ap, subst, ◌∙◌, arith}
use Rattle.std.specs.List.{AllZip}
use Rattle.algebra.proofs.Lists.{length-tabulate}
use Rattle.p3_air.specs.Satisfied.{row_at}
use Rattle.p3_periodic.specs.Tables.{table_row}
use Rattle.p3_periodic.specs.Views.{table_rows}
use Rattle.p3_uni_stark_phases.proofs.Tables.{row_again, some_rows, rows_wide, all_wide}
use Rattle.p3_uni_stark_phases.proofs.quotient.periodic_on_coset.Goals as goal

pub table_matrix-requires-clause-widths : goal.table_matrix-requires-clause-widths
table_matrix-requires-clause-widths g c i =
    rows_wide (λ index. g.P.UnivariateStarkPcs.IsPeriodicValue c.args.trace_domain
    (g.P.UnivariateStarkPcs.point c.args.coset index)) c.args.columns.now
    (table_rows c.in-Ok.table) c.in-Ok.ensures.table.values i

pub returns-clause-values : goal.returns-clause-values
returns-clause-values g c i =
    subst (λ row. AllZip (g.P.UnivariateStarkPcs.IsPeriodicValue c.args.trace_domain
    (g.P.UnivariateStarkPcs.point c.args.coset i)) c.args.columns.now row)
    (sym (ap (λ rs. row_at rs (i % length rs)) c.in_ok-table_matrix.ensures.rows
    ∙ row_again (table_rows c.in-Ok.table) i)) (c.in-Ok.ensures.table.values i)

pub returns-clause-some_row : goal.returns-clause-some_row
returns-clause-some_row g c some =
    let rows = table_rows c.in-Ok.table in
    let e = ap length c.in_ok-table_matrix.ensures.rows
    ∙ length-tabulate (length rows) (table_row rows) in
    let size = (g.P.Pcs.rules c.args.scheme.now).domain_size in
    let h = some_rows (size c.args.trace_domain) c.args.columns.now some c.in-Ok.ensures.exactly
    (size c.args.coset) (size c.args.trace_domain) (length rows) c.requires.some_point
    c.requires.sizes c.in-Ok.ensures.table.height in
    omega (arith, e, h)

pub returns-clause-widths : goal.returns-clause-widths
returns-clause-widths g c =
    let rows = table_rows c.in-Ok.table in
    let width = length c.args.columns.now in
    subst (λ rs. All (λ row. length row ≡ width) rs) (sym c.in_ok-table_matrix.ensures.rows)
    (all_wide width (length rows) (table_row rows)
    (λ i. rows_wide (λ index. g.P.UnivariateStarkPcs.IsPeriodicValue c.args.trace_domain
    (g.P.UnivariateStarkPcs.point c.args.coset index)) c.args.columns.now rows
    c.in-Ok.ensures.table.values i))
