use Rattle.std.proofs.Common.{◌^◌, ℕ, map, subst}
use Rattle.p3_periodic.specs.Values.{IsValueOf, IsValueAt}
use Rattle.p3_periodic.proofs.Tables.{period_of_slice, values_more, values_of_all}
use Rattle.p3_periodic.proofs.evaluator.values_at_point.Goals as goal

pub column_at_point-requires-clause-period : goal.column_at_point-requires-clause-period
column_at_point-requires-clause-period g c =
    period_of_slice (2 ^ c.args.log_rows) c.args.columns.now c.loop-i.i
    c.index-columns-i.result c.as_slice.result.now c.loop-i-test.true c.index-columns-i.is
    c.as_slice.ensures.value c.index-columns-i.result.ok.0 c.requires.periods

pub column_at_point-requires-clause-within_two_adicity : goal.column_at_point-requires-clause-within_two_adicity
column_at_point-requires-clause-within_two_adicity g c =
    c.requires.within_two_adicity

pub loop-i-preserved : goal.loop-i-preserved
loop-i-preserved g c =
    let lift = g.EF.ExtensionField.lift in
    let K = g.EF.Field.ops in
    let w : ℕ → g.row.EF.Denot = λ k. lift (g.F.TwoAdicField.root k) in
    values_more (IsValueAt K w c.args.log_rows c.args.point lift) c.args.columns.now c.loop-i.i
    c.index-columns-i.result c.loop-i.values.items c.push.new.self.items
    c.in_ok-column_at_point.field-0 c.loop-i-test.true c.index-columns-i.is
    c.in_ok-push.ensures.items c.loop-i.invariant
    (subst (λ xs. IsValueOf K w c.args.log_rows c.args.point (map lift xs)
    c.in_ok-column_at_point.field-0) c.as_slice.ensures.value c.in_ok-column_at_point.ensures)

pub returns : goal.returns
returns g c =
    let lift = g.EF.ExtensionField.lift in
    let w : ℕ → g.row.EF.Denot = λ k. lift (g.F.TwoAdicField.root k) in
    values_of_all (IsValueAt g.EF.Field.ops w c.args.log_rows c.args.point lift)
    c.args.columns.now c.loop-i.i c.loop-i.values.items c.loop-i-test.false c.loop-i.invariant
