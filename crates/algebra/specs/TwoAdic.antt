-- Roots of unity whose order is a power of two, and the points of the domains that they span.
use Rattle.std.specs.Prelude.{◌≡◌, ℕ, zero, suc, ◌+◌, ◌*◌, ◌^◌, ◌<◌, List}
use Rattle.algebra.specs.Field.{FieldOps, pow}
use Rattle.algebra.specs.Polynomial.{tabulate}
use Rattle.algebra.specs.Digits.{rev}

-- `w 0, .., w top` are roots of unity of the orders `1, 2, .., 2^top`, each the square of the next
pub record AreRoots {A : Type 0} (F : FieldOps A) (top : ℕ) (w : ℕ → A) : Type 0 where
  pub first : w zero ≡ F.one
  pub minus_one : 0 < top → w 1 ≡ F.neg F.one
  pub square : (k : ℕ) → k < top → F.mul (w (suc k)) (w (suc k)) ≡ w k

module _ {A : Type 0} (F : FieldOps A) (w : ℕ → A) where
  -- the `i`-th point, in bit-reversed order, of the domain of `2^k` points
  unfoldable pub pt : ℕ → ℕ → A
  pt i k = pow F (w k) (rev k i)

  -- the domain of `2^k` points, in bit-reversed order
  abbrev pub domain_points : ℕ → List A
  domain_points k = tabulate (2 ^ k) (λ i. pt i k)

  -- the points of row `i` of `2^a` neighbours in the domain of `2^(h + a)` points
  abbrev pub row_points : ℕ → ℕ → ℕ → List A
  row_points i a h = tabulate (2 ^ a) (λ j. pt (i * 2 ^ a + j) (h + a))
