-- Polynomials modulo `X^n - z`.
use Rattle.std.specs.Prelude.{ℕ, ◌+◌, ◌*◌, List, length}
use Rattle.algebra.specs.Field.{FieldOps, pow}
use Rattle.algebra.specs.Polynomial.{tabulate, sum_below}
use Rattle.algebra.specs.PolynomialProduct.{coefficient}

module _ {A : Type 0} (F : FieldOps A) where
  -- what `c` is modulo `X^n - z`: the coefficient of `X^i` is the sum of those of `X^(i + j n)` in
  -- `c`, each times `z^j`
  unfoldable pub reduced : (n : ℕ) (z : A) (c : List A) → List A
  reduced n z c = tabulate n
      (λ i. sum_below F (length c) (λ j. F.mul (coefficient F c (i + j * n)) (pow F z j)))
