use Rattle.std.proofs.Common.{◌≡◌, ◌<◌, ◌%◌, ◌∙◌, arith}
use Rattle.std.proofs.Math.Nat.{mod-lt}
use Rattle.p3_prime_field.proofs.ResidueSteps.{inverse_round, inverse_round_positive, inverse_start}
use Rattle.p3_baby_bear.specs.BabyBear.{baby_bear}
use Rattle.p3_baby_bear.specs.BabyBearLaws.{inverse_is, positive, order_is_prime}
use Rattle.p3_baby_bear.proofs.baby_bear.inverse.inverse_of.Goals as goal

pub loop-divisor-init : goal.loop-divisor-init
loop-divisor-init c = record {
  linked = rw c.from_number-product.ensures (inverse_start 2013265921 c.args.x.value c.args.x.canonical);
  positive = positive c.args.x c.requires;
  small = c.args.x.canonical;
}

pub loop-divisor-preserved : goal.loop-divisor-preserved
unfolding baby_bear
loop-divisor-preserved c =
    let here = c.loop-divisor in
    let kept = here.invariant in
    record {
      linked = rw (c.mul-product.ensures, c.from_number.ensures)
          (inverse_round 2013265921 c.args.x.value here.product.value here.divisor kept.linked
          kept.positive kept.small);
      positive =
          inverse_round_positive 2013265921 here.divisor order_is_prime c.loop-divisor-test.true
          kept.small;
      small = (let less : 2013265921 % here.divisor
          < here.divisor = mod-lt 2013265921 kept.positive in omega (arith, less, kept.small));
    }

pub returns : goal.returns
unfolding baby_bear
returns c =
    let kept = c.loop-divisor.invariant in
    let last : c.loop-divisor.divisor ≡ 1 = omega (arith, kept.positive, c.loop-divisor-test.false) in
    inverse_is c.args.x c.loop-divisor.product c.requires (kept.linked ∙ last)
