-- What has the values of a column at the powers of a root of unity is the column's interpolant.
use Rattle.std.proofs.Common.{◌≡◌, ℕ, ◌^◌, ◌<◌, ◌≤◌, List, sym, arith}
use Rattle.algebra.specs.Field.{FieldOps, IsField, pow}
use Rattle.algebra.specs.Polynomial.{tabulate}
use Rattle.algebra.specs.TwoAdic.{AreRoots}
use Rattle.algebra.specs.Interpolation.{Interpolates, interpolant}
use Rattle.algebra.proofs.Interpolation.{interpolated-length, interpolant_interpolates}
use Rattle.algebra.proofs.Interpolation.{interpolates_unique}
use Rattle.algebra.proofs.Lists.{Distinct, distinct-tabulate}
use Rattle.algebra.proofs.Points.{powers_differ}

module _ {A : Type 0} (F : FieldOps A) (L : IsField F) (top : ℕ) (w : ℕ → A)
    (W : AreRoots F top w) where
  abbrev points : ℕ → List A
  points k = tabulate (2 ^ k) (λ i. pow F (w k) i)

  points_distinct : (k : ℕ) → k ≤ top → Distinct (points k)
  points_distinct k t = distinct-tabulate (2 ^ k) (λ i. pow F (w k) i)
      (λ i j p q e. differ i j p (powers_differ F L top w W k i j t (omega (arith, p, q)) q e))
    where
      differ : (i j : ℕ) → i < j → i ≡ j → ⊥
      differ i j p e = omega (arith, p, e)

  pub is_interpolant : (k : ℕ) (column c : List A) → k ≤ top → Interpolates F (points k) column c
      → c ≡ interpolant F (points k) column
  is_interpolant k column c t known =
      interpolates_unique F L (points k) column c (interpolant F (points k) column)
      (points_distinct k t) known
      (interpolant_interpolates F L (points k) column
      (sym (interpolated-length F (points k) column c known)) (points_distinct k t))
