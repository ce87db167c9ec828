use Rattle.std.proofs.Common.{◌≡◌, ◌^◌, sym, ap₂, ◌∙◌}
use Rattle.algebra.specs.Field.{sub}
use Rattle.stark_algebra.specs.Selectors.{zerofier}
use Rattle.p3_uni_stark_identity.proofs.selectors.is_on_domain.Goals as goal

pub returns : goal.returns
returns g c =
    let K = g.EF.Field.ops in
    let field = g.met.EF.Field in
    let vanishing : c.sub-vanishing.result ≡ zerofier K (2 ^ c.args.log_size) c.args.point =
    field.sub_law c.exp_power_of_2.result c.ONE.result c.sub-vanishing.result
    c.sub-vanishing.ensures
    ∙ ap₂ (λ x y. sub K x y) c.exp_power_of_2.ensures (c.ONE.ensures ∙ field.one_law) in (
      λ h. sym vanishing ∙ c.is_zero.ensures.0 h,
      λ h. c.is_zero.ensures.1 (vanishing ∙ h),
    )
