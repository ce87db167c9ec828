use Rattle.p3_periodic.proofs.First.{one_more, to_the_end}
use Rattle.std.proofs.Common.{subst}
use Rattle.p3_periodic.specs.Columns.{IsPeriod}
use Rattle.p3_periodic.proofs.columns.check_periods.Goals as goal

pub loop-i-preserved : goal.loop-i-preserved
loop-i-preserved g c =
    one_more c.args.trace_height c.args.table.now c.loop-i.i c.index-table-i.result
    c.loop-i-test.true c.index-table-i.is c.loop-i.invariant
    (subst (λ p. IsPeriod c.args.trace_height p) c.len.ensures c.in_default.ensures)

pub returns : goal.returns
returns g c =
    to_the_end c.args.trace_height c.args.table.now _ c.loop-i-test.false c.loop-i.invariant
