use Rattle.std.proofs.Common.{refl, ap, ap₂, sym, ◌∙◌}
use Rattle.algebra.specs.QuarticExtension.{base_norm}
use Rattle.p3_baby_bear.specs.declared.baby_bear.BabyBear.{BabyBear}
use Rattle.p3_baby_bear.specs.declared.baby_bear4.BabyBear4.{BabyBear4}
use Rattle.p3_baby_bear.specs.BabyBear.{baby_bear, element}
use Rattle.p3_baby_bear.specs.BabyBear4.{baby_bear4, quartic_of}
use Rattle.p3_baby_bear.specs.BabyBear4Laws.{same_coefficients}
use Rattle.p3_baby_bear.proofs.QuarticSteps.{norm_not_zero, zero_number}
use Rattle.p3_baby_bear.proofs.baby_bear4.field.BabyBear4Field.inverse.Goals as goal

pub inverse-scale-requires : goal.inverse-scale-requires
unfolding baby_bear4
inverse-scale-requires c =
    let even =
    c.mul-even.ensures ∙ ap (λ t. baby_bear4.mul c.args.self t)
    c.conjugate_of-conjugate.ensures in
    let norm =
    c.even_norm_of.ensures ∙ ap (λ t. base_norm baby_bear (element 11) (quartic_of t)) even in
    record { nonzero = λ e. norm_not_zero c.args.self c.requires.nonzero (sym norm ∙ e) }

pub returns : goal.returns
unfolding baby_bear4
returns c =
    let conjugate = c.conjugate_of-conjugate.ensures in
    let even = c.mul-even.ensures ∙ ap (λ t. baby_bear4.mul c.args.self t) conjugate in
    let scale =
    c.inverse-scale.ensures ∙ ap baby_bear.inv
    (c.even_norm_of.ensures ∙ ap (λ t. base_norm baby_bear (element 11) (quartic_of t)) even) in
    c.mul-3.ensures
    ∙ ap₂ baby_bear4.mul conjugate
    (same_coefficients
    (c.mul.ensures ∙ ap₂ (λ (t : BabyBear4) (i : BabyBear). baby_bear.mul t.constant i) even scale)
    (zero_number _ refl)
    (c.neg.ensures ∙ ap baby_bear.neg
    (c.mul-2.ensures ∙ ap₂ (λ (t : BabyBear4) (i : BabyBear). baby_bear.mul t.quadratic i) even
    scale))
    (zero_number _ refl))
