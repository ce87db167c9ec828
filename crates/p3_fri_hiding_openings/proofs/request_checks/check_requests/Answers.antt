use Rattle.std.proofs.Common.{map}
use Rattle.std.proofs.lemmas.Result.{err_from_is_err_and}
use Rattle.p3_pcs.specs.Requests.{request}
use Rattle.p3_fri_relation.specs.Setting.{Fields}
use Rattle.p3_fri_relation.specs.Views.{parameters_of}
use Rattle.p3_fri_hiding_openings.proofs.Passed.{passes, matrix_refused, point_refused_as}
use Rattle.p3_fri_hiding_openings.proofs.request_checks.check_requests.Given.{Over}
use Rattle.p3_fri_hiding_openings.proofs.request_checks.check_requests.Goals as goal

abbrev fields_of : (g : Over) → Fields g.row.F.Denot g.row.EF.Denot
fields_of g = record {
  base = g.F.Field.ops;
  ext = g.EF.Field.ops;
  lift = g.EF.ExtensionField.lift;
  coefficients = g.EF.ExtensionField.coefficients;
  degree = g.EF.ExtensionField.DIMENSION;
  root = g.F.TwoAdicField.root;
  two_adicity = g.F.TwoAdicField.TWO_ADICITY;
  shift = g.F.Field.GENERATOR;
}

pub returns-in_err-check_matrices : goal.returns-in_err-check_matrices
returns-in_err-check_matrices g c =
    let made = err_from_is_err_and c.from_residual.result c.from_residual.ensures.1 in
    rw (made.1, made.2)
    (matrix_refused (fields_of g) (parameters_of c.args.params.now) c.args.num_random_codewords
    g.InputMmcs.Mmcs.committed (map request c.args.requests.now)
    c.in_err-check_matrices.field-0.0 c.in_err-check_matrices.ensures)

pub returns-in_err-check_points : goal.returns-in_err-check_points
returns-in_err-check_points g c =
    let residual = c.from_residual-in_err-check_points in
    let made = err_from_is_err_and residual.result residual.ensures.1 in
    rw made.1
    (point_refused_as (fields_of g) (parameters_of c.args.params.now) c.args.num_random_codewords
    g.InputMmcs.Mmcs.committed (map request c.args.requests.now)
    c.in_ok-check_matrices.ensures c.in_err-check_points.field-0.0 made.0 made.2
    c.in_err-check_points.ensures)

pub returns : goal.returns
returns g c =
    passes (fields_of g) (parameters_of c.args.params.now) c.args.num_random_codewords
    g.InputMmcs.Mmcs.committed (map request c.args.requests.now)
    c.requires.points c.in_ok-check_matrices.ensures c.in_ok-check_points.ensures
