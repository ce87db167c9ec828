use Rattle.std.proofs.Common.{map}
use Rattle.std.proofs.lemmas.Result.{MatchResult-weaker}
use Rattle.p3_pcs.specs.Requests.{request}
use Rattle.p3_fri_relation.specs.Setting.{Fields}
use Rattle.p3_fri_relation.specs.Views.{parameters_of}
use Rattle.p3_fri_opening_prover.proofs.Asked.{low_refused, on_refused, points_counted}
use Rattle.p3_fri_opening_prover.proofs.request_checks.check_requests.Given.{Over}
use Rattle.p3_fri_opening_prover.proofs.request_checks.check_requests.Goals as goal

abbrev fields_of : (g : Over) → Fields g.row.F.Denot g.row.EF.Denot
fields_of g = record {
  base = g.F.Field.ops;
  ext = g.EF.Field.ops;
  lift = g.EF.ExtensionField.lift;
  coefficients = g.EF.ExtensionField.coefficients;
  degree = g.EF.ExtensionField.DIMENSION;
  root = g.F.TwoAdicField.root;
  two_adicity = g.F.TwoAdicField.TWO_ADICITY;
  shift = g.F.Field.GENERATOR;
}

pub check_request_points-requires-clause-cosets : goal.check_request_points-requires-clause-cosets
check_request_points-requires-clause-cosets g c =
    c.requires.openable.data_openable

pub check_request_points-requires-clause-points : goal.check_request_points-requires-clause-points
check_request_points-requires-clause-points g c =
    points_counted (fields_of g) (parameters_of c.args.params.now)
    g.InputMmcs.Mmcs.committed (map request c.args.requests.now) c.requires.openable.points

pub returns-in-Ok : goal.returns-in-Ok
returns-in-Ok g c =
    let tall = c.in-Ok.ensures in
    MatchResult-weaker c.check_request_points.result c.check_request_points.ensures
    (λ u off. record { heights = tall; points = off })
    (on_refused (fields_of g) (parameters_of c.args.params.now) g.InputMmcs.Mmcs.committed
    (map request c.args.requests.now) tall)

pub returns-in-Err : goal.returns-in-Err
returns-in-Err g c =
    low_refused (fields_of g) (parameters_of c.args.params.now) g.InputMmcs.Mmcs.committed
    (map request c.args.requests.now) c.in-Err.refusal c.in-Err.ensures
