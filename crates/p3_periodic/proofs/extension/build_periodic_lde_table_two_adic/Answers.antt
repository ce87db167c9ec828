use Rattle.std.proofs.Common.{◌^◌, All, sym, subst}
use Rattle.p3_periodic.specs.Columns.{HasPeriod, FirstFault}
use Rattle.p3_periodic.proofs.Tables.{refused_by_first}
use Rattle.p3_periodic.proofs.extension.build_periodic_lde_table_two_adic.Goals as goal

pub returns-in-Err-clause-exactly : goal.returns-in-Err-clause-exactly
returns-in-Err-clause-exactly g c =
    let table = c.args.periodic_table.now in
    refused_by_first (2 ^ c.args.trace_domain.now.log_size) table c.in-Err.fault
    (subst (λ n. FirstFault n table c.in-Err.fault) c.size.ensures c.in-Err.ensures.exactly)

pub table_of_columns-requires-clause-periods : goal.table_of_columns-requires-clause-periods
table_of_columns-requires-clause-periods g c =
    let table = c.args.periodic_table.now in
    let all = subst (λ n. All (HasPeriod n) table) c.size.ensures c.in-Ok.ensures.exactly in
    subst (λ cs. All (HasPeriod (2 ^ c.log_size-log_rows.result)) cs)
    (sym c.in-Ok.ensures.columns)
    (subst (λ n. All (HasPeriod (2 ^ n)) table) (sym c.log_size-log_rows.ensures) all)

pub returns-in-Ok-table_of_columns-clause-exactly :
    goal.returns-in-Ok-table_of_columns-clause-exactly
returns-in-Ok-table_of_columns-clause-exactly g c =
    let table = c.args.periodic_table.now in
    subst (λ n. All (HasPeriod n) table) c.size.ensures c.in-Ok.ensures.exactly

pub returns-in-Err-table_of_columns-clause-exactly :
    goal.returns-in-Err-table_of_columns-clause-exactly
returns-in-Err-table_of_columns-clause-exactly g c =
    let table = c.args.periodic_table.now in
    subst (λ n. All (HasPeriod n) table) c.size.ensures c.in-Ok.ensures.exactly
