use Rattle.std.proofs.Common.{◌∙◌, sym, ap, arith}
use Rattle.p3_periodic.specs.Tables.{table_row}
use Rattle.p3_periodic.specs.Views.{table_rows}
use Rattle.p3_uni_stark_phases.proofs.Tables.{entry_next, some_within}
use Rattle.p3_uni_stark_phases.proofs.quotient.push_table_row.Goals as goal
use Rattle.p3_uni_stark_phases.proofs.quotient.push_table_row.Goals.{in-Some+in_ok-push-in-Some, in-None}

pub loop-column-preserved : goal.loop-column-preserved
loop-column-preserved g c =
    let row = table_row (table_rows c.args.table.now) c.args.row in
    let test = c.loop-column-test.true in
    elim c.match-get.branch [
      | in-Some+in_ok-push-in-Some w ↦
          ap (λ v. v.items) w.values-is
          ∙ entry_next c.args.values.now.items c.loop-column.values.items w.push.new.self.items row
          c.loop-column.column w.in-Some.value c.loop-column.invariant w.in_ok-push-in-Some.ensures.items
          (omega (arith, test, c.requires.width)) (sym w.in-Some.ensures)
      | in-None w ↦ absurd (some_within row c.loop-column.column
          (omega (arith, test, c.requires.width)) (sym w.in-None.ensures))
    ]
