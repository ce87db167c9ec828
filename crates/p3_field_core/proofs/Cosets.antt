-- The points of a coset are distinct, and are exactly the zeros of its vanishing polynomial.
use Rattle.std.proofs.Common.{◌≡◌, ◌≢◌, ℕ, ◌^◌, ◌<◌, ◌≤◌, sym, ap, ◌∙◌, arith, Contains}
use Rattle.algebra.specs.Field.{FieldOps, IsField, pow}
use Rattle.algebra.specs.Digits.{rev}
use Rattle.algebra.specs.TwoAdic.{AreRoots, pt}
use Rattle.algebra.specs.Cosets.{IsOnCoset}
use Rattle.algebra.proofs.Combine.{cancel_factor}
use Rattle.algebra.proofs.Digits.{rev-lt, rev-rev}
use Rattle.algebra.proofs.Points.{powers_differ}
use Rattle.algebra.proofs.PointTest.{vanishing_exactly}
use Rattle.algebra.proofs.Lists.{distinct-tabulate, length-tabulate, get_or-tabulate, AllPairs_from_distinct}
use Rattle.algebra.specs.Interpolation.{AreDistinct}
use Rattle.algebra.specs.Polynomial.{tabulate}
use Rattle.p3_field_core.specs.Coset.{coset_point, coset_points, bit_reversed_points}
use Rattle.p3_field_core.specs.Coset.{VanishesExactlyOn}

module _ {A : Type 0} (F : FieldOps A) (L : IsField F) (top : ℕ) (w : ℕ → A) (W : AreRoots F top w)
    (k : ℕ) (b : k ≤ top) where
  -- points at different indices differ
  indexed_distinct : (f : ℕ → ℕ) → ((i : ℕ) → i < 2 ^ k → f i < 2 ^ k)
      → ((i j : ℕ) → i < 2 ^ k → j < 2 ^ k → f i ≡ f j → i ≡ j)
      → (shift : A) → shift ≢ F.zero
      → AreDistinct (tabulate (2 ^ k) (λ i. coset_point F (w k) shift (f i)))
  indexed_distinct f within apart shift n =
      AllPairs_from_distinct (tabulate (2 ^ k) (λ i. coset_point F (w k) shift (f i)))
      (distinct-tabulate (2 ^ k) (λ i. coset_point F (w k) shift (f i))
      (λ i j p q e. not_below i j p (equal i j (omega (arith, p, q)) q e)))
    where
      not_below : (i j : ℕ) → i < j → i ≡ j → ⊥
      not_below i j p e = omega (arith, p, e)

      equal : (i j : ℕ) → i < 2 ^ k → j < 2 ^ k
          → coset_point F (w k) shift (f i) ≡ coset_point F (w k) shift (f j) → i ≡ j
      equal i j l m e =
          apart i j l m (powers_differ F L top w W k (f i) (f j) b (within i l) (within j m)
          (cancel_factor F L shift (pow F (w k) (f i)) (pow F (w k) (f j)) n e))

  pub natural_distinct : (shift : A) → shift ≢ F.zero → AreDistinct (coset_points F (w k) shift k)
  natural_distinct = indexed_distinct (λ i. i) (λ i l. l) (λ i j l m e. e)

  pub reversed_distinct : (shift : A) → shift ≢ F.zero
      → AreDistinct (bit_reversed_points F (w k) shift k)
  reversed_distinct =
      indexed_distinct (rev k) (λ i l. rev-lt k i)
      (λ i j l m e. sym (rev-rev k i l) ∙ ap (rev k) e ∙ rev-rev k j m)

  pub vanishes_exactly : (shift : A) → shift ≢ F.zero → VanishesExactlyOn F (w k) shift k
  unfolding pt
  vanishes_exactly shift n = record {
    distinct = natural_distinct shift n;
    zeros = λ x.
        let exactly = vanishing_exactly F L top w W shift n k b x in
        (λ e. in_order x (exactly.0 e), λ h. exactly.1 (reversed x h));
  }
    where
      -- a point's place in natural order, and in bit-reversed order
      in_order : (x : A) → IsOnCoset F (λ y. y) w shift k x → Contains (coset_points F (w k) shift k) x
      in_order x h = (
        rev k h.0,
        omega (arith, rev-lt k h.0, length-tabulate (2 ^ k) (coset_point F (w k) shift)),
        get_or-tabulate (2 ^ k) (coset_point F (w k) shift) (rev k h.0) x (rev-lt k h.0) ∙ h.2,
      )

      reversed : (x : A) → Contains (coset_points F (w k) shift k) x → IsOnCoset F (λ y. y) w shift k x
      reversed x h =
          let below : h.0 < 2 ^ k = omega (arith, h.1, length-tabulate (2 ^ k) (coset_point F (w k) shift)) in (
            rev k h.0,
            rev-lt k h.0,
            ap (λ i. coset_point F (w k) shift i) (rev-rev k h.0 below)
                ∙ sym (get_or-tabulate (2 ^ k) (coset_point F (w k) shift) h.0 x below)
                ∙ h.2,
          )
