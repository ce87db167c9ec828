use Rattle.std.proofs.Common.{◌≡◌, ◌<◌, ◌%◌, ◌∙◌, arith}
use Rattle.std.proofs.Math.Nat.{mod-lt}
use Rattle.p3_prime_field.proofs.ResidueSteps.{inverse_round, inverse_round_positive, inverse_start}
use Rattle.p3_goldilocks.specs.Goldilocks.{goldilocks}
use Rattle.p3_goldilocks.specs.GoldilocksLaws.{inverse_is, positive, order_is_prime}
use Rattle.p3_goldilocks.proofs.goldilocks.inverse.inverse_of.Goals as goal

pub loop-divisor-init : goal.loop-divisor-init
loop-divisor-init c = record {
  linked = rw c.from_number-product.ensures (inverse_start 18446744069414584321 c.args.x.value c.args.x.canonical);
  positive = positive c.args.x c.requires;
  small = c.args.x.canonical;
}

pub loop-divisor-preserved : goal.loop-divisor-preserved
unfolding goldilocks
loop-divisor-preserved c =
    let here = c.loop-divisor in
    let kept = here.invariant in
    record {
      linked = rw (c.mul-product.ensures, c.from_number.ensures)
          (inverse_round 18446744069414584321 c.args.x.value here.product.value here.divisor kept.linked
          kept.positive kept.small);
      positive =
          inverse_round_positive 18446744069414584321 here.divisor order_is_prime c.loop-divisor-test.true
          kept.small;
      small = (let less : 18446744069414584321 % here.divisor
          < here.divisor = mod-lt 18446744069414584321 kept.positive in omega (arith, less, kept.small));
    }

pub returns : goal.returns
unfolding goldilocks
returns c =
    let kept = c.loop-divisor.invariant in
    let last : c.loop-divisor.divisor ≡ 1 = omega (arith, kept.positive, c.loop-divisor-test.false) in
    inverse_is c.args.x c.loop-divisor.product c.requires (kept.linked ∙ last)
