use Rattle.std.proofs.Common.{All, take}
use Rattle.p3_fri_relation.specs.Setting.{Fields}
use Rattle.p3_fri_relation.specs.Views.{parameters_of}
use Rattle.p3_fri_openings.specs.Rounds.{asked_in}
use Rattle.p3_fri_hiding_openings.specs.Opening.{CanHide}
use Rattle.p3_fri_hiding_openings.proofs.request_checks.check_round.Given.{Over}
use Rattle.p3_fri_hiding_openings.proofs.request_checks.check_round.Given as goal

abbrev pub fields_of : (g : Over) → Fields g.row.F.Denot g.row.EF.Denot
fields_of g = record {
  base = g.F.Field.ops;
  ext = g.EF.Field.ops;
  lift = g.EF.ExtensionField.lift;
  coefficients = g.EF.ExtensionField.coefficients;
  degree = g.EF.ExtensionField.DIMENSION;
  root = g.F.TwoAdicField.root;
  two_adicity = g.F.TwoAdicField.TWO_ADICITY;
  shift = g.F.Field.GENERATOR;
}

abbrev pub invariant-loop-matrix : goal.invariant-loop-matrix
invariant-loop-matrix g l =
    All (CanHide (fields_of g) (parameters_of l.params) l.num_random_codewords)
    (take l.matrix (asked_in l.round))
