-- Products of polynomials, given as lists of coefficients, and what is left of them modulo another.
use Rattle.std.specs.Prelude.{◌≡◌, ℕ, suc, ◌+◌, ◌-◌, ◌<◌, List, length, slice_index_or}
use Rattle.algebra.specs.Field.{FieldOps}
use Rattle.algebra.specs.Polynomial.{tabulate, sum_below}

module _ {A : Type 0} (F : FieldOps A) where
  -- the coefficient of `X^k` in `c`
  abbrev pub coefficient : List A → ℕ → A
  coefficient c k = slice_index_or c k F.zero

  -- the coefficient of `X^k` in the product: the sum of `a_i * b_(k - i)` for `i` from 0 to `k`
  abbrev pub product_coefficient : List A → List A → ℕ → A
  product_coefficient a b k =
      sum_below F (suc k) (λ i. F.mul (coefficient a i) (coefficient b (k - i)))

  -- the product of two polynomials
  abbrev pub polynomial_product : List A → List A → List A
  polynomial_product a b = tabulate (length a + length b - 1) (λ k. product_coefficient a b k)

  -- `r` is the remainder of `c` divided by `m`: shorter than `m`, and `c` less `r` is a multiple of
  -- `m`
  pub record IsRemainder (m c r : List A) : Type 0 where
    pub shorter : length r < length m
    pub quotient : List A
    pub division : (k : ℕ) → coefficient c k
        ≡ F.add (coefficient r k) (coefficient (polynomial_product quotient m) k)

  -- `c` isn't the product of two polynomials that are shorter than it
  abbrev pub HasNoFactors : List A → Type 0
  HasNoFactors c = (a b : List A) → length a < length c → length b < length c
      → ¬ ((k : ℕ) → coefficient (polynomial_product a b) k ≡ coefficient c k)
