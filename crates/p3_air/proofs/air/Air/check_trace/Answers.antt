use Rattle.std.proofs.Common.{◌<◌, ◌≤◌, below_more, sym, subst}
use Rattle.algebra.proofs.Nested.{length-lists}
use Rattle.p3_air.specs.Satisfied.{HoldAtRow}
use Rattle.p3_air.specs.Shapes.{assigned}
use Rattle.p3_air.proofs.RowEntries.{fault_of_row, satisfied}
use Rattle.p3_air.proofs.air.Air.check_trace.Goals as goal

pub returns-in-Err-check_row : goal.returns-in-Err-check_row
returns-in-Err-check_row g c =
    let trace = c.args.given.now.trace.now in
    let there = subst (λ n. c.loop-row.row < n) (sym (length-lists trace)) c.loop-row-test.true in
    fault_of_row g.F.Field.ops c.args.self.now (assigned c.args.given.now) c.in_default.ensures
    c.loop-row.row there c.loop-row.invariant c.in-Err-check_row.fault
    c.in-Err-check_row.ensures

pub loop-row-preserved : goal.loop-row-preserved
loop-row-preserved g c =
    let Holds = HoldAtRow g.F.Field.ops c.args.self.now (assigned c.args.given.now) in
    below_more Holds c.loop-row.row c.loop-row.invariant c.in_default-check_row.ensures

pub returns : goal.returns
returns g c =
    let trace = c.args.given.now.trace.now in
    let end = subst (λ n. n ≤ c.loop-row.row) (sym (length-lists trace)) c.loop-row-test.false in
    satisfied g.F.Field.ops c.args.self.now (assigned c.args.given.now) c.in_default.ensures
    c.loop-row.row end c.loop-row.invariant
