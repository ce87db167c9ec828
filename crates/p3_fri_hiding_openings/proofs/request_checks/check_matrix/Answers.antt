use Rattle.std.proofs.Common.{◌≡◌, length, refl, sym, ap, ◌∙◌, subst}
use Rattle.std.specs.Prelude.{◌/◌, ◌^◌}
use Rattle.std.proofs.lemmas.Result.{err_from_is_err_and}
use Rattle.p3_fri_relation.specs.Setting.{Fields}
use Rattle.p3_fri_relation.specs.TallEnough.{IsTallEnough, HeightRefusal}
use Rattle.p3_fri_relation.specs.Views.{parameters_of}
use Rattle.p3_fri_openings.specs.Rounds.{ask, log_height}
use Rattle.p3_fri_openings.proofs.Log2.{log2_is}
use Rattle.p3_fri_hiding_openings.proofs.Tested.{by_height, by_budget}
use Rattle.p3_fri_hiding_openings.proofs.request_checks.check_matrix.Given.{Over}
use Rattle.p3_fri_hiding_openings.proofs.request_checks.check_matrix.Goals.{After-log2_strict_usize}
use Rattle.p3_fri_hiding_openings.proofs.request_checks.check_matrix.Goals as goal

abbrev fields_of : (g : Over) → Fields g.row.F.Denot g.row.EF.Denot
fields_of g = record {
  base = g.F.Field.ops;
  ext = g.EF.Field.ops;
  lift = g.EF.ExtensionField.lift;
  coefficients = g.EF.ExtensionField.coefficients;
  degree = g.EF.ExtensionField.DIMENSION;
  root = g.F.TwoAdicField.root;
  two_adicity = g.F.TwoAdicField.TWO_ADICITY;
  shift = g.F.Field.GENERATOR;
}

-- the number that is tested is the logarithm of the height
is_log : (g : Over) (c : After-log2_strict_usize g)
    → c.log2_strict_usize.result ≡ log_height c.args.matrix.now
is_log g c = log2_is _ _ (c.log2_strict_usize.ensures.power ∙ c.height-height.ensures)

pub returns-in_err-validate_input_height : goal.returns-in_err-validate_input_height
returns-in_err-validate_input_height g c =
    let p = parameters_of c.args.params.now in
    let is = is_log g (goal.at.returns-in_err-validate_input_height g c).After-log2_strict_usize in
    let made = err_from_is_err_and c.from_residual.result c.from_residual.ensures.1 in
    rw made.1
    (by_height (fields_of g) p c.args.num_random_codewords
    (ask c.args.matrix.now c.args.points.now) c.in_err-validate_input_height.field-0.0 made.0 made.2
    (λ tall. let ok = c.in_err-validate_input_height.ensures.tall_enough.1
    (subst (λ h. IsTallEnough p h) (sym is) tall) in cc)
    (subst (λ h. HeightRefusal p h c.in_err-validate_input_height.field-0.0) is
    c.in_err-validate_input_height.ensures.refused))

pub returns : goal.returns
returns g c =
    let p = parameters_of c.args.params.now in
    let is = is_log g (goal.at.returns g c).After-log2_strict_usize in
    by_budget (fields_of g) p c.args.num_random_codewords
    (ask c.args.matrix.now c.args.points.now)
    (subst (λ h. IsTallEnough p h) is (c.in_ok-validate_input_height.ensures.tall_enough.0 refl))
    c.check_hiding_budget.result c.DIMENSION.result c.lde_mask_height-mask_height.result
    (length c.args.points.now) c.DIMENSION.ensures
    (c.lde_mask_height-mask_height.ensures
    ∙ ap (λ h. h / 2 ^ c.args.params.now.log_blowup / 2) c.height-height.ensures)
    refl c.check_hiding_budget.ensures.exactly c.check_hiding_budget.ensures.refusal
