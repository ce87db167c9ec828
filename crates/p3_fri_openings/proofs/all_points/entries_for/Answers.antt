use Rattle.std.proofs.Common.{Contains, sym, subst, arith}
use Rattle.p3_fri_relation.specs.Setting.{Fields}
use Rattle.p3_fri_openings.specs.Denominators.{IsTableFor, points_of_table}
use Rattle.p3_fri_openings.proofs.First.{to_the_end}
use Rattle.p3_fri_openings.proofs.Pushed.{weaker_next}
use Rattle.p3_fri_openings.proofs.AskedPoints.{point_asked}
use Rattle.p3_fri_openings.proofs.RoundTables.{table_nil}
use Rattle.p3_fri_openings.proofs.all_points.entries_for.Goals as goal

pub loop-matrix-init : goal.loop-matrix-init
loop-matrix-init g c =
    let f : Fields g.row.F.Denot g.row.EF.Denot = record {
      base = g.F.Field.ops;
      ext = g.EF.Field.ops;
      lift = g.EF.ExtensionField.lift;
      coefficients = g.EF.ExtensionField.coefficients;
      degree = g.EF.ExtensionField.DIMENSION;
      root = g.F.TwoAdicField.root;
      two_adicity = g.F.TwoAdicField.TWO_ADICITY;
      shift = g.F.Field.GENERATOR;
    } in
    record {
      table = subst (λ es. IsTableFor f c.args.asked.now es) (sym c.new-entries.ensures.items)
          (table_nil f c.args.asked.now);
      each_point = λ k d l. absurd (omega (arith, l));
    }

pub add_point-requires : goal.add_point-requires
add_point-requires g c = record {
  asked = c.requires;
  point = point_asked c.args.asked.now c.loop-matrix.matrix-index c.matrix-item.result
      c.loop-matrix-test.true c.matrix-item.is;
  table = c.loop-matrix.invariant.table;
}

pub loop-matrix-preserved : goal.loop-matrix-preserved
loop-matrix-preserved g c =
    let old = c.loop-matrix.entries.items in
    let news = c.add_point.new.table.items in
    record {
      table = c.in_ok-add_point.ensures.table;
      each_point = weaker_next (λ a. Contains (points_of_table old) a.point)
          (λ a. Contains (points_of_table news) a.point) c.args.asked.now c.loop-matrix.matrix-index
          c.matrix-item.result c.loop-matrix-test.true c.matrix-item.is
          (λ a there. c.in_ok-add_point.ensures.others a.point there)
          c.loop-matrix.invariant.each_point c.in_ok-add_point.ensures.point;
    }

pub returns-clause-table : goal.returns-clause-table
returns-clause-table g c = c.loop-matrix.invariant.table

pub returns-clause-each_point : goal.returns-clause-each_point
returns-clause-each_point g c =
    to_the_end (λ a. Contains (points_of_table c.loop-matrix.entries.items) a.point)
    c.args.asked.now
    c.loop-matrix.matrix-index c.loop-matrix-test.false c.loop-matrix.invariant.each_point
