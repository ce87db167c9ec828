use Rattle.std.proofs.Common.{◌^◌, ℕ, All, sym, subst, ◌∙◌}
use Rattle.std.specs.List.{AllZip}
use Rattle.p3_periodic.specs.Columns.{HasPeriod, FirstFault}
use Rattle.p3_periodic.specs.Values.{IsValueAt}
use Rattle.p3_periodic.proofs.Tables.{refused_by_first}
use Rattle.p3_periodic.proofs.evaluator.table_at_point.Goals as goal

pub returns-in-Err-clause-exactly : goal.returns-in-Err-clause-exactly
returns-in-Err-clause-exactly g c =
    let table = c.args.periodic_table.now in
    refused_by_first (2 ^ c.args.trace_domain.now.log_size) table c.in-Err.fault
    (subst (λ n. FirstFault n table c.in-Err.fault) c.size.ensures c.in-Err.ensures.exactly)

pub values_at_point-requires-clause-periods : goal.values_at_point-requires-clause-periods
values_at_point-requires-clause-periods g c =
    let table = c.args.periodic_table.now in
    let all = subst (λ n. All (HasPeriod n) table) c.size.ensures c.in-Ok.ensures.exactly in
    subst (λ cs. All (HasPeriod (2 ^ c.log_size-log_rows.result)) cs)
    (sym (c.as_slice.ensures ∙ c.in-Ok.ensures.columns))
    (subst (λ n. All (HasPeriod (2 ^ n)) table) (sym c.log_size-log_rows.ensures) all)

pub returns-in-Ok-values_at_point-clause-values : goal.returns-in-Ok-values_at_point-clause-values
returns-in-Ok-values_at_point-clause-values g c =
    let lift = g.EF.ExtensionField.lift in
    let K = g.EF.Field.ops in
    let w : ℕ → g.row.EF.Denot = λ k. lift (g.F.TwoAdicField.root k) in
    let values = c.in-Ok-values_at_point.values.items in
    subst (λ n. AllZip (IsValueAt K w n c.args.point lift) c.args.periodic_table.now values)
    c.log_size-log_rows.ensures
    (subst (λ cs. AllZip (IsValueAt K w c.log_size-log_rows.result c.args.point lift) cs values)
    (c.as_slice.ensures ∙ c.in-Ok.ensures.columns) c.in-Ok-values_at_point.ensures)

pub returns-in-Ok-values_at_point-clause-exactly :
    goal.returns-in-Ok-values_at_point-clause-exactly
returns-in-Ok-values_at_point-clause-exactly g c =
    let table = c.args.periodic_table.now in
    subst (λ n. All (HasPeriod n) table) c.size.ensures c.in-Ok.ensures.exactly

pub returns-in-Err-values_at_point-clause-exactly : goal.returns-in-Err-values_at_point-clause-exactly
returns-in-Err-values_at_point-clause-exactly g c =
    let table = c.args.periodic_table.now in
    subst (λ n. All (HasPeriod n) table) c.size.ensures c.in-Ok.ensures.exactly
