use Rattle.std.proofs.Common.{◌≡◌, ◌<◌, ◌*◌, ◌%◌}
use Rattle.p3_goldilocks.proofs.goldilocks.inverse.inverse_of.Given as goal

-- the product is the inverse, but for the divisor that is left
abbrev pub invariant-loop-divisor : goal.invariant-loop-divisor
invariant-loop-divisor l = record {
  linked : l.fn.x.value * l.product.value % 18446744069414584321 ≡ l.divisor;
  positive : 0 < l.divisor;
  small : l.divisor < 18446744069414584321;
}

abbrev pub decreases-loop-divisor : goal.decreases-loop-divisor
decreases-loop-divisor l = l.divisor
