use Rattle.std.proofs.Common.{◌≡◌, ◌<◌, ◌*◌, ◌%◌}
use Rattle.p3_koala_bear.proofs.koala_bear.inverse.inverse_of.Given as goal

-- the product is the inverse, but for the divisor that is left
abbrev pub invariant-loop-divisor : goal.invariant-loop-divisor
invariant-loop-divisor l = record {
  linked : l.fn.x.value * l.product.value % 2130706433 ≡ l.divisor;
  positive : 0 < l.divisor;
  small : l.divisor < 2130706433;
}

abbrev pub decreases-loop-divisor : goal.decreases-loop-divisor
decreases-loop-divisor l = l.divisor
