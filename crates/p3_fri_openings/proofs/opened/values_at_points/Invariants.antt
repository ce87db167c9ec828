use Rattle.std.proofs.Common.{◌≡◌, map, take}
use Rattle.algebra.specs.Nested.{lists}
use Rattle.p3_fri_relation.specs.Setting.{Fields}
use Rattle.p3_fri_openings.specs.Committed.{committed_values}
use Rattle.p3_fri_openings.proofs.opened.values_at_points.Given as goal

abbrev pub invariant-loop-point : goal.invariant-loop-point
invariant-loop-point g l =
    let f : Fields g.row.F.Denot g.row.EF.Denot = record {
      base = g.F.Field.ops;
      ext = g.EF.Field.ops;
      lift = g.EF.ExtensionField.lift;
      coefficients = g.EF.ExtensionField.coefficients;
      degree = g.EF.ExtensionField.DIMENSION;
      root = g.F.TwoAdicField.root;
      two_adicity = g.F.TwoAdicField.TWO_ADICITY;
      shift = g.F.Field.GENERATOR;
    } in
    lists l.values.items ≡ map (committed_values f l.log_blowup l.matrix)
    (take l.point-index l.points)
