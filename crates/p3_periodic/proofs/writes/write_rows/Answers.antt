use Rattle.std.proofs.Common.{◌≡◌, ◌*◌, ℕ, arith, refl, subst}
use Rattle.p3_periodic.specs.Writes.{MeetInRows}
use Rattle.p3_periodic.proofs.Written.{rows_one_more}
use Rattle.p3_periodic.proofs.writes.write_rows.Goals as goal

pub loop-i-preserved : goal.loop-i-preserved
loop-i-preserved g c target known =
    rows_one_more target c.args.width c.loop-i.i (c.loop-i.i * c.args.width) c.args.places.now
    c.args.table.now c.loop-i.table c.write_row.new.table refl (c.loop-i.invariant target known)
    (c.write_row.ensures target (known c.loop-i.i c.loop-i-test.true))

pub returns : goal.returns
returns g c target known =
    let all : c.loop-i.i ≡ c.args.height = omega arith in
    let Met : ℕ → Type 0 = λ n.
    MeetInRows target c.args.width n c.args.places.now c.args.table.now c.loop-i.table in
    subst Met all (c.loop-i.invariant target known)
