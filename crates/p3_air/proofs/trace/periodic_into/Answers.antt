use Rattle.std.proofs.Common.{◌<◌, ◌%◌, List, length, get_or, ap, sym, subst, ◌∙◌}
use Rattle.p3_air.proofs.PeriodicValues.{values_more, values_end, period_read}
use Rattle.p3_air.proofs.trace.periodic_into.Goals as goal

pub periodic_value-value-requires : goal.periodic_value-value-requires
periodic_value-value-requires g c =
    let column = c.index-columns-i.result in
    subst (λ cs. 0 < length cs) (sym c.as_slice-column.ensures.value)
    (period_read g.F.Field.ops c.args.columns.now c.args.row c.requires.periods c.loop-i.i column
    c.loop-i-test.true c.index-columns-i.is)

pub loop-i-preserved : goal.loop-i-preserved
loop-i-preserved g c =
    let K = g.F.Field.ops in
    let entry : List g.row.F.Denot → g.row.F.Denot = λ cs.
    get_or cs (c.args.row % length cs) K.zero in
    values_more K c.args.columns.now c.args.row c.loop-i.i c.index-columns-i.result
    c.periodic_value-value.result c.loop-i.values.items c.push.new.self.items c.loop-i-test.true
    c.index-columns-i.is (c.periodic_value-value.ensures ∙ ap entry c.as_slice-column.ensures.value)
    c.loop-i.invariant c.in_ok-push.ensures.items

pub returns : goal.returns
returns g c =
    values_end g.F.Field.ops c.args.columns.now c.args.row c.loop-i.i c.loop-i.values.items
    c.loop-i-test.false c.loop-i.invariant
