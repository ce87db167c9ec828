-- Cosets of the two-adic subgroups, in natural order.
use Rattle.std.specs.Prelude.{◌≡◌, ℕ, ◌^◌, ◌↔◌, List, Contains}
use Rattle.algebra.specs.Digits.{rev}
use Rattle.algebra.specs.Field.{FieldOps, pow}
use Rattle.algebra.specs.Polynomial.{tabulate}
use Rattle.algebra.specs.Interpolation.{AreDistinct}
pub use Rattle.algebra.specs.Cosets.{vanishing}

module _ {A : Type 0} (F : FieldOps A) where
  -- the point `i` of the coset of `shift` by the powers of `w`: `shift * w^i`
  abbrev pub coset_point : (w shift : A) → ℕ → A
  coset_point w shift i = F.mul shift (pow F w i)

  -- the coset of `2^k` points, where `w` is the root of unity of order `2^k`
  abbrev pub coset_points : (w shift : A) → ℕ → List A
  coset_points w shift k = tabulate (2 ^ k) (coset_point w shift)

  -- the same in bit-reversed order: at `i` the point `rev k i`
  abbrev pub bit_reversed_points : (w shift : A) → ℕ → List A
  bit_reversed_points w shift k = tabulate (2 ^ k) (λ i. coset_point w shift (rev k i))

  -- the points of the coset are distinct, and are exactly the zeros of that polynomial
  pub record VanishesExactlyOn (w shift : A) (k : ℕ) : Type 0 where
    pub distinct : AreDistinct (coset_points w shift k)
    pub zeros : (x : A) → (vanishing F shift k x ≡ F.zero) ↔ Contains (coset_points w shift k) x
