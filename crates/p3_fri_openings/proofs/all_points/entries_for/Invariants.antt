use Rattle.std.proofs.Common.{All, Contains, take}
use Rattle.p3_fri_relation.specs.Setting.{Fields}
use Rattle.p3_fri_openings.specs.Denominators.{IsTableFor, points_of_table}
use Rattle.p3_fri_openings.proofs.all_points.entries_for.Given as goal

abbrev pub invariant-loop-matrix : goal.invariant-loop-matrix
invariant-loop-matrix g l =
    let f : Fields g.row.F.Denot g.row.EF.Denot = record {
      base = g.F.Field.ops;
      ext = g.EF.Field.ops;
      lift = g.EF.ExtensionField.lift;
      coefficients = g.EF.ExtensionField.coefficients;
      degree = g.EF.ExtensionField.DIMENSION;
      root = g.F.TwoAdicField.root;
      two_adicity = g.F.TwoAdicField.TWO_ADICITY;
      shift = g.F.Field.GENERATOR;
    } in
    record {
      table : IsTableFor f l.asked l.entries.items;
      each_point : All (λ a. Contains (points_of_table l.entries.items) a.point)
          (take l.matrix-index l.asked);
    }
