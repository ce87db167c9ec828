use Rattle.std.proofs.Common.{◌≡◌, ◌≢◌, ◌^◌, true, false, refl, sym, ap, ap₂, ◌∙◌}
use Rattle.algebra.specs.Field.{sub, pow}
use Rattle.algebra.proofs.Combine.{sub-eq, sub-self}
use Rattle.p3_uni_stark_quotient.proofs.Honest.{cosets_off}
use Rattle.p3_uni_stark_quotient.proofs.selectors.is_off_subgroups.Goals as goal

pub returns-then-is_zero : goal.returns-then-is_zero
returns-then-is_zero g c =
    let F = g.F.Field.ops in
    let field = g.met.F.Field in
    let power = c.exp_power_of_2-power.ensures
    ∙ ap (λ n. pow F c.args.coset.shift (2 ^ n)) c.TWO_ADICITY.ensures in
    let difference : c.sub-difference.result
    ≡ sub F (pow F c.args.coset.shift (2 ^ g.F.TwoAdicField.TWO_ADICITY)) F.one =
    field.sub_law c.exp_power_of_2-power.result c.ONE.result c.sub-difference.result
    c.sub-difference.ensures
    ∙ ap₂ (λ x y. sub F x y) power (c.ONE.ensures ∙ field.one_law) in
    let one : pow F c.args.coset.shift (2 ^ g.F.TwoAdicField.TWO_ADICITY) ≡ F.one =
    sub-eq F field.laws.ring (sym difference ∙ c.is_zero.ensures.0 c.if-is_zero.true) in
    record {
      power = ((λ h. cc), (λ n. absurd (n one)));
      off = tt;
    }

pub returns : goal.returns
returns g c =
    let F = g.F.Field.ops in
    let field = g.met.F.Field in
    let power = c.exp_power_of_2-power.ensures
    ∙ ap (λ n. pow F c.args.coset.shift (2 ^ n)) c.TWO_ADICITY.ensures in
    let difference : c.sub-difference.result
    ≡ sub F (pow F c.args.coset.shift (2 ^ g.F.TwoAdicField.TWO_ADICITY)) F.one =
    field.sub_law c.exp_power_of_2-power.result c.ONE.result c.sub-difference.result
    c.sub-difference.ensures
    ∙ ap₂ (λ x y. sub F x y) power (c.ONE.ensures ∙ field.one_law) in
    let other : pow F c.args.coset.shift (2 ^ g.F.TwoAdicField.TWO_ADICITY) ≢ F.one =
    λ e. falsity (sym c.if-is_zero.false ∙ c.is_zero.ensures.1 (difference
    ∙ ap (λ x. sub F x F.one) e ∙ sub-self F field.laws.ring F.one)) in
    record {
      power = ((λ h. other), (λ n. refl));
      off = λ k l. cosets_off F field.laws g.F.TwoAdicField.TWO_ADICITY g.F.TwoAdicField.root
          g.met.F.TwoAdicField.roots_law c.args.coset.shift other k c.args.coset.log_size l
          c.args.coset.within_two_adicity;
    }
  where
    falsity : false ≡ true → ⊥
    falsity e = cc
