use Rattle.std.proofs.Common.{◌≡◌, ◌≢◌, ◌++◌, ◌∙◌, map, subst, sym, ap, All}
use Rattle.std.specs.List.{flat_map}
use Rattle.p3_fri_relation.specs.Setting.{Fields}
use Rattle.p3_fri_relation.specs.Heights.{matrices_of}
use Rattle.p3_fri_relation.specs.QuotientSums.{point_read}
use Rattle.p3_fri_relation.specs.Views.{claims_of}
use Rattle.p3_fri_inputs.specs.Claims.{distances}
use Rattle.p3_fri_inputs.proofs.Assembly.{all_nonzero}
use Rattle.p3_fri_inputs.proofs.Places.{of_some, of_none}
use Rattle.p3_fri_inputs.proofs.points.inverse_distances.Given.{Over}
use Rattle.p3_fri_inputs.proofs.points.inverse_distances.Goals.{After-deref}
use Rattle.p3_fri_inputs.proofs.points.inverse_distances.Goals as goal

abbrev fields_of : (g : Over) → Fields g.row.F.Denot g.row.EF.Denot
fields_of g = record {
  base = g.F.Field.ops;
  ext = g.EF.Field.ops;
  lift = g.EF.ExtensionField.lift;
  coefficients = g.EF.ExtensionField.coefficients;
  degree = g.EF.ExtensionField.DIMENSION;
  root = g.F.TwoAdicField.root;
  two_adicity = g.F.TwoAdicField.TWO_ADICITY;
  shift = g.F.Field.GENERATOR;
}

-- the differences are the distances at all positions
differences : (g : Over) (c : After-deref g) → c.deref.result.now
    ≡ flat_map (λ q. distances g.EF.Field.ops c.args.log_blowup
    (point_read (fields_of g) c.args.log_global_max_height q)
    (matrices_of (claims_of (λ domain. domain.log_size) c.args.claims.now))) c.args.indices.now
differences g c =
    let known = of_none c.in_ok-met.met _ _ c.in_default.is c.in_ok-met.ensures in
    c.deref.ensures.value ∙ known.1
    ∙ ap (λ xs. xs ++ flat_map (λ q. distances g.EF.Field.ops c.args.log_blowup
    (point_read (fields_of g) c.args.log_global_max_height q)
    (matrices_of (claims_of (λ domain. domain.log_size) c.args.claims.now))) c.args.indices.now)
    c.new-differences.ensures.items

pub returns-in-Some : goal.returns-in-Some
returns-in-Some g c =
    let met = c.in-Some in
    of_some c.in_ok-met.met (met.batch, met.matrix, met.point) _ _ met.is c.in_ok-met.ensures

pub batch_multiplicative_inverse-requires : goal.batch_multiplicative_inverse-requires
batch_multiplicative_inverse-requires g c =
    let known = of_none c.in_ok-met.met _ _ c.in_default.is c.in_ok-met.ensures in
    record {
      nonzero = subst (All (λ x. x ≢ g.EF.Field.ops.zero))
          (sym (differences g (goal.at.batch_multiplicative_inverse-requires g c).After-deref))
          (all_nonzero g.EF.Field.ops g.met.EF.Field.laws c.args.log_blowup
          (point_read (fields_of g) c.args.log_global_max_height) c.args.indices.now
          (matrices_of (claims_of (λ domain. domain.log_size) c.args.claims.now)) known.0);
    }

pub returns : goal.returns
returns g c =
    let known = of_none c.in_ok-met.met _ _ c.in_default.is c.in_ok-met.ensures in (
      λ j l. known.0 j l 0,
      c.in_ok-inverses.ensures
          ∙ ap (λ xs. map g.EF.Field.ops.inv xs) (differences g (goal.at.returns g c).After-deref),
    )
