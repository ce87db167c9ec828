-- Products modulo 2013265921 by an estimate `h` of their quotient: `q` is the quotient of `2^32 w`,
-- and `h` that of `x q` by `2^32`.
use Rattle.std.proofs.Common.{◌≡◌, ℕ, ◌+◌, ◌*◌, ◌/◌, ◌<◌, ◌≤◌, lit<, lit≤}
use Rattle.p3_prime_field.proofs.ResidueSteps.{estimate_below as below, rest_below as rest}

module _ (x w q h : ℕ) (is_quotient : q ≡ w * 4294967296 / 2013265921)
    (is_estimate : h ≡ x * q / 4294967296) where
  pub estimate_below : h * 2013265921 ≤ x * w
  estimate_below = below 2013265921 x w q h is_quotient is_estimate

  pub rest_below : x < 2013265921 → x * w < h * 2013265921 + 4026531842
  rest_below less = rest 2013265921 x w q h is_quotient is_estimate (lit< tt) (lit≤ tt) less

pub ruleset estimates = (estimate_below, rest_below)
