-- What the estimate leaves of the product lies below twice the order and counts as the product.
use Rattle.std.proofs.Common.{◌≡◌, ◌-◌, ◌*◌, ◌/◌, ◌%◌, ◌∙◌, ap, refl}
use Rattle.p3_baby_bear.specs.BabyBear.{baby_bear}
use Rattle.p3_baby_bear.specs.BabyBearLaws.{same_number}
use Rattle.p3_prime_field.proofs.ResidueSteps.{left_is}
use Rattle.p3_baby_bear.proofs.baby_bear.factor.BabyBearFactor.times.Goals as goal

pub returns : goal.returns
unfolding baby_bear
returns c =
    let x = c.args.x.value in
    let f = c.args.self in
    let h = x * f.quotient / 4294967296 in
    let left : c.from-3.result * c.from-4.result
    - c.from.result * c.from-2.result / 4294967296 * c.from-5.result
    ≡ x * f.factor.value - h * 2013265921 =
    rw (c.from.ensures, c.from-2.ensures, c.from-3.ensures, c.from-4.ensures, c.from-5.ensures)
    refl in
    c.reduced_once.ensures
    ∙ same_number _ _ (ap (λ n. n % 2013265921) left
    ∙ left_is 2013265921 x f.factor.value f.quotient h f.rounded_down refl)
