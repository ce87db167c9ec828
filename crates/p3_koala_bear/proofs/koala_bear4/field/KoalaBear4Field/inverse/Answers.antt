use Rattle.std.proofs.Common.{refl, ap, ap₂, sym, ◌∙◌}
use Rattle.algebra.specs.QuarticExtension.{base_norm}
use Rattle.p3_koala_bear.specs.declared.koala_bear.KoalaBear.{KoalaBear}
use Rattle.p3_koala_bear.specs.declared.koala_bear4.KoalaBear4.{KoalaBear4}
use Rattle.p3_koala_bear.specs.KoalaBear.{koala_bear, element}
use Rattle.p3_koala_bear.specs.KoalaBear4.{koala_bear4, quartic_of}
use Rattle.p3_koala_bear.specs.KoalaBear4Laws.{same_coefficients}
use Rattle.p3_koala_bear.proofs.QuarticSteps.{norm_not_zero, zero_number}
use Rattle.p3_koala_bear.proofs.koala_bear4.field.KoalaBear4Field.inverse.Goals as goal

pub inverse-scale-requires : goal.inverse-scale-requires
unfolding koala_bear4
inverse-scale-requires c =
    let even =
    c.mul-even.ensures ∙ ap (λ t. koala_bear4.mul c.args.self t)
    c.conjugate_of-conjugate.ensures in
    let norm =
    c.even_norm_of.ensures ∙ ap (λ t. base_norm koala_bear (element 3) (quartic_of t)) even in
    record { nonzero = λ e. norm_not_zero c.args.self c.requires.nonzero (sym norm ∙ e) }

pub returns : goal.returns
unfolding koala_bear4
returns c =
    let conjugate = c.conjugate_of-conjugate.ensures in
    let even = c.mul-even.ensures ∙ ap (λ t. koala_bear4.mul c.args.self t) conjugate in
    let scale =
    c.inverse-scale.ensures ∙ ap koala_bear.inv
    (c.even_norm_of.ensures ∙ ap (λ t. base_norm koala_bear (element 3) (quartic_of t)) even) in
    c.mul-3.ensures
    ∙ ap₂ koala_bear4.mul conjugate
    (same_coefficients
    (c.mul.ensures ∙ ap₂ (λ (t : KoalaBear4) (i : KoalaBear). koala_bear.mul t.constant i) even scale)
    (zero_number _ refl)
    (c.neg.ensures ∙ ap koala_bear.neg
    (c.mul-2.ensures ∙ ap₂ (λ (t : KoalaBear4) (i : KoalaBear). koala_bear.mul t.quadratic i) even
    scale))
    (zero_number _ refl))
