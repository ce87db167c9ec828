use Rattle.std.proofs.Common.{All, map, take}
use Rattle.p3_pcs.specs.Requests.{request}
use Rattle.p3_fri_relation.specs.Setting.{Fields}
use Rattle.p3_fri_openings.specs.Refusals.{HasPointsOff}
use Rattle.p3_fri_opening_prover.specs.Refusals.{asked_of}
use Rattle.p3_fri_hiding_openings.specs.Requests.{inside}
use Rattle.p3_fri_hiding_openings.proofs.request_checks.check_points.Given.{Over}
use Rattle.p3_fri_hiding_openings.proofs.request_checks.check_points.Given as goal

abbrev pub fields_of : (g : Over) → Fields g.row.F.Denot g.row.EF.Denot
fields_of g = record {
  base = g.F.Field.ops;
  ext = g.EF.Field.ops;
  lift = g.EF.ExtensionField.lift;
  coefficients = g.EF.ExtensionField.coefficients;
  degree = g.EF.ExtensionField.DIMENSION;
  root = g.F.TwoAdicField.root;
  two_adicity = g.F.TwoAdicField.TWO_ADICITY;
  shift = g.F.Field.GENERATOR;
}

abbrev pub invariant-loop-index : goal.invariant-loop-index
invariant-loop-index g l =
    All (λ q. All (HasPointsOff (fields_of g)) (asked_of g.InputMmcs.Mmcs.committed q))
    (take l.index (map inside (map request l.requests)))
