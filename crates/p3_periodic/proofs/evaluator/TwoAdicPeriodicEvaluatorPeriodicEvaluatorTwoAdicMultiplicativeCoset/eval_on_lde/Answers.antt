use Rattle.std.proofs.Common.{◌-◌, ◌/◌, ◌^◌, refl}
use Rattle.std.proofs.lemmas.Result.{IfOk-weaker}
use Rattle.p3_field_core.specs.Coset.{coset_point}
use Rattle.p3_dft.proofs.Batches.{exponent_within}
use Rattle.p3_periodic.specs.declared.table.PeriodicLdeTable.{PeriodicLdeTable}
use Rattle.p3_periodic.specs.Tables.{AreTabulated}
use Rattle.p3_periodic.specs.Values.{IsValueAt, IsColumnValue}
use Rattle.p3_periodic.specs.Views.{table_rows}
use Rattle.p3_periodic.proofs.Rows.{tabulated_lifted}
use Rattle.p3_periodic.proofs.evaluator.TwoAdicPeriodicEvaluatorPeriodicEvaluatorTwoAdicMultiplicativeCoset.eval_on_lde.Goals as goal

pub eval_on_lde_with_dft-requires : goal.eval_on_lde_with_dft-requires
eval_on_lde_with_dft-requires g c =
    exponent_within c.args.trace_domain.now.log_size c.args.lde_domain.now.log_size _ refl
    c.requires

pub returns-clause-table : goal.returns-clause-table
returns-clause-table g c =
    let A = g.row.F.Denot in
    let F = g.F.Field.ops in
    let root = g.F.TwoAdicField.root in
    let n = c.args.trace_domain.now.log_size in
    let size = c.args.lde_domain.now.log_size in
    let point = coset_point F (root size) c.args.lde_domain.now.shift in
    let columns = c.args.periodic_table.now in
    let Before : PeriodicLdeTable A → Type 0 = λ table. AreTabulated columns (2 ^ (size - n))
    (λ index. IsColumnValue F root n (point index)) (table_rows table) in
    let After : PeriodicLdeTable A → Type 0 = λ table. AreTabulated columns (2 ^ size / 2 ^ n)
    (λ index. IsValueAt F root n (point index) (λ (x : A). x)) (table_rows table) in
    IfOk-weaker c.eval_on_lde_with_dft.result Before After
    (λ table. tabulated_lifted F root n size point columns
    (exponent_within n size (2 ^ n) refl c.requires) (table_rows table))
    c.eval_on_lde_with_dft.ensures.table
