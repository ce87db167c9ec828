use Rattle.std.proofs.Common.{◌∙◌, inl, refl}
use Rattle.std.proofs.lemmas.Result.{err_from_is_err_and}
use Rattle.p3_field_core.specs.declared.coset.TwoAdicMultiplicativeCoset.{TwoAdicMultiplicativeCoset as Coset}
use Rattle.p3_fri_relation.specs.Views.{parameters_of, claims_of}
use Rattle.p3_fri_verifier.proofs.Instances.{heights_from, range_from, height_fault}
use Rattle.p3_fri_verifier.proofs.instance.check_instance.Goals as goal

pub returns-in_err-check_heights-clause-exact : goal.returns-in_err-check_heights-clause-exact
returns-in_err-check_heights-clause-exact g c =
    let size = λ (domain : Coset g.row.F.Denot g.row.F-Prepared.Denot g.F.TwoAdicField g.F.Field g.F.PartialEq g.F.Add g.F.Sub g.F.Mul g.F.Neg). domain.log_size in
    let p = err_from_is_err_and c.from_residual-in_err-check_heights.result c.from_residual-in_err-check_heights.ensures.1 in
    rw p.1 (λ ample. (
      (λ e. cc),
      (λ ranged.
          let wrong = c.in_err-check_heights.ensures.exact.1 (heights_from (parameters_of c.args.params.now) (claims_of size c.args.claims.now) g.F.TwoAdicField.TWO_ADICITY
          c.as_slice.result.now (c.as_slice.ensures.value ∙ c.in_ok-heights.ensures) c.TWO_ADICITY.result c.TWO_ADICITY.ensures ranged) in cc),
    ))

pub returns-in_err-check_heights-clause-refusal : goal.returns-in_err-check_heights-clause-refusal
returns-in_err-check_heights-clause-refusal g c =
    let size = λ (domain : Coset g.row.F.Denot g.row.F-Prepared.Denot g.F.TwoAdicField g.F.Field g.F.PartialEq g.F.Add g.F.Sub g.F.Mul g.F.Neg). domain.log_size in
    let p = err_from_is_err_and c.from_residual-in_err-check_heights.result c.from_residual-in_err-check_heights.ensures.1 in
    rw (p.1, p.2) (inl (height_fault (parameters_of c.args.params.now) (claims_of size c.args.claims.now) g.F.TwoAdicField.TWO_ADICITY
    c.as_slice.result.now (c.as_slice.ensures.value ∙ c.in_ok-heights.ensures) c.TWO_ADICITY.result c.TWO_ADICITY.ensures
    c.in_err-check_heights.field-0.0 c.in_err-check_heights.ensures.refusal))

pub returns-clause-exact : goal.returns-clause-exact
returns-clause-exact g c =
    let size = λ (domain : Coset g.row.F.Denot g.row.F-Prepared.Denot g.F.TwoAdicField g.F.Field g.F.PartialEq g.F.Add g.F.Sub g.F.Mul g.F.Neg). domain.log_size in
    λ ample. (
      (λ e. range_from (parameters_of c.args.params.now) (claims_of size c.args.claims.now) g.F.TwoAdicField.TWO_ADICITY
          c.as_slice.result.now (c.as_slice.ensures.value ∙ c.in_ok-heights.ensures) c.TWO_ADICITY.result c.TWO_ADICITY.ensures
          (c.in_ok-check_parameters.ensures.exact.0 refl) (c.in_ok-check_heights.ensures.exact.0 refl)),
      (λ r. refl),
    )
