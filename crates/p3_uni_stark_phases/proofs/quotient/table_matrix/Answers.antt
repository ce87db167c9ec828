use Rattle.std.proofs.Common.{◌≡◌, ◌%◌, ap, ◌∙◌, arith, length}
use Rattle.algebra.specs.Polynomial.{tabulate}
use Rattle.p3_periodic.specs.Tables.{table_row}
use Rattle.p3_periodic.specs.Views.{table_rows}
use Rattle.p3_uni_stark_quotient.proofs.Chunking.{row_next, rows_are, rows_whole}
use Rattle.p3_uni_stark_phases.proofs.quotient.table_matrix.Goals as goal

pub loop-row-preserved : goal.loop-row-preserved
loop-row-preserved g c =
    row_next (table_row (table_rows c.args.table.now)) c.loop-row.row c.loop-row.values.items
    c.push_table_row.new.values.items c.loop-row.invariant c.in_ok-push_table_row.ensures

pub new-requires : goal.new-requires
new-requires g c = record {
  has_columns = c.requires.some_column;
  whole_rows = ap (λ n. n % c.args.width) c.loop-row.values.ok.0
      ∙ rows_whole (table_row (table_rows c.args.table.now)) c.args.width c.loop-row.row
      (λ i _. c.requires.widths i) c.requires.some_column c.loop-row.values.items
      c.loop-row.invariant;
}

pub returns : goal.returns
returns g c =
    let rows = table_rows c.args.table.now in
    let test = c.loop-row-test.false in
    let auto = c.loop-row.auto in
    let end : c.loop-row.row ≡ length rows = omega (arith, test, auto, c.height-row-end.ensures) in
    record {
      rows = c.new.ensures.rows
          ∙ rows_are (table_row rows) c.args.width c.loop-row.row
          (λ i _. c.requires.widths i) c.requires.some_column c.loop-row.values.items
          c.loop-row.invariant
          ∙ ap (λ n. tabulate n (table_row rows)) end;
      width = c.new.ensures.width;
    }
