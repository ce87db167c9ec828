-- The coefficients of the one polynomial with given values at the powers of a root of unity, each
-- times a power.
use Rattle.std.proofs.Common.{◌≡◌, ℕ, ◌+◌, ◌*◌, ◌^◌, ◌<◌, ◌≤◌, List, get_or, refl, sym, ap, ◌∙◌}
use Rattle.std.proofs.Common.{arith}
use Rattle.algebra.specs.Field.{FieldOps, IsRing, IsField, pow, multiple}
use Rattle.algebra.specs.Polynomial.{val, tabulate}
use Rattle.algebra.specs.Interpolation.{Interpolates, interpolant}
use Rattle.algebra.specs.TwoAdic.{AreRoots}
use Rattle.algebra.proofs.Ring.{◌:*◌, ◌:=◌, ring}
use Rattle.algebra.proofs.Powers.{pow-times}
use Rattle.algebra.proofs.PolynomialProduct.{sum_below-equal}
use Rattle.algebra.proofs.Sums.{val-tabulate}
use Rattle.algebra.proofs.Points.{full_turn, powers_differ}
use Rattle.algebra.proofs.Interpolation.{interpolant_interpolates, interpolates_unique}
use Rattle.algebra.proofs.Lists.{Distinct, distinct-tabulate, length-tabulate, map-tabulate}
use Rattle.algebra.proofs.Lists.{get_or-tabulate, tabulate-equal}
use Rattle.p3_dft.specs.Evaluations.{subgroup_points}
use Rattle.p3_dft.specs.Strided.{strided, HoldsValues}
use Rattle.p3_dft.proofs.Inversion.{inverted}

-- powers on the coefficients move the point
pub val-tabulate_stretched : {A : Type 0} (F : FieldOps A) → IsRing F → (n : ℕ) (c : ℕ → A) (r x : A) → val F (tabulate n (λ i. F.mul (c i) (pow F r i))) x ≡ val F (tabulate n c) (F.mul r x)
val-tabulate_stretched F R n c r x =
    val-tabulate F n (λ i. F.mul (c i) (pow F r i)) x
    ∙ sum_below-equal F n (λ i. F.mul (F.mul (c i) (pow F r i)) (pow F x i)) (λ i. F.mul (c i) (pow F (F.mul r x) i))
    (λ i l. R.mul_assoc (c i) (pow F r i) (pow F x i) ∙ ap (λ p. F.mul (c i) p) (pow-times F R r x i))
    ∙ sym (val-tabulate F n c (F.mul r x))

module _ {A : Type 0} (F : FieldOps A) (L : IsField F) (top : ℕ) (w : ℕ → A) (W : AreRoots F top w) (k : ℕ) (b : k ≤ top) where
  infixl 70 ◌⊗◌
  open F use {zero as 𝟘, one as 𝟙, mul as ◌⊗◌}

  not_below : (i j : ℕ) → i < j → i ≡ j → ⊥
  not_below i j l e = omega (arith, l, e)

  pub points_distinct : Distinct (subgroup_points F (w k) k)
  points_distinct = distinct-tabulate (2 ^ k) (λ i. pow F (w k) i) (λ i j l m e. not_below i j l (powers_differ F L top w W k i j b (omega (arith, l, m)) m e))

  interpolates : (y : ℕ → A) → Interpolates F (subgroup_points F (w k) k) (tabulate (2 ^ k) y) (interpolant F (subgroup_points F (w k) k) (tabulate (2 ^ k) y))
  interpolates y = interpolant_interpolates F L (subgroup_points F (w k) k) (tabulate (2 ^ k) y) (length-tabulate (2 ^ k) (λ i. pow F (w k) i) ∙ sym (length-tabulate (2 ^ k) y)) points_distinct

  -- the interpolant has the values that it was made from
  pub val-interpolant : (y : ℕ → A) (i : ℕ) → i < 2 ^ k → val F (interpolant F (subgroup_points F (w k) k) (tabulate (2 ^ k) y)) (pow F (w k) i) ≡ y i
  val-interpolant y i l =
      let c = interpolant F (subgroup_points F (w k) k) (tabulate (2 ^ k) y) in
      sym (get_or-tabulate (2 ^ k) (λ i. val F c (pow F (w k) i)) i 𝟘 l)
      ∙ ap (λ xs. get_or xs i 𝟘) (sym (map-tabulate (λ x. val F c x) (2 ^ k) (λ i. pow F (w k) i)) ∙ (interpolates y).values)
      ∙ get_or-tabulate (2 ^ k) y i 𝟘 l

  module _ (u size_inverse : A) (inverse : w k ⊗ u ≡ 𝟙) (size : multiple F (2 ^ k) ⊗ size_inverse ≡ 𝟙) where
    pub coefficients_are : (y : ℕ → A) → tabulate (2 ^ k) (λ i. size_inverse ⊗ val F (tabulate (2 ^ k) y) (pow F u i)) ≡ interpolant F (subgroup_points F (w k) k) (tabulate (2 ^ k) y)
    coefficients_are y =
        interpolates_unique F L (subgroup_points F (w k) k) (tabulate (2 ^ k) y) (tabulate (2 ^ k) (λ i. size_inverse ⊗ val F (tabulate (2 ^ k) y) (pow F u i))) (interpolant F (subgroup_points F (w k) k) (tabulate (2 ^ k) y))
        points_distinct
        (record {
          count = length-tabulate (2 ^ k) (λ i. size_inverse ⊗ val F (tabulate (2 ^ k) y) (pow F u i)) ∙ sym (length-tabulate (2 ^ k) (λ i. pow F (w k) i));
          values =
              map-tabulate (λ x. val F (tabulate (2 ^ k) (λ i. size_inverse ⊗ val F (tabulate (2 ^ k) y) (pow F u i))) x) (2 ^ k) (λ i. pow F (w k) i)
              ∙ tabulate-equal (2 ^ k) (λ l. val F (tabulate (2 ^ k) (λ i. size_inverse ⊗ val F (tabulate (2 ^ k) y) (pow F u i))) (pow F (w k) l)) y
              (λ l below. inverted F L (2 ^ k) (w k) u size_inverse inverse (full_turn F L top w W k b) (λ i j p q e. powers_differ F L top w W k i j b p q e) size y l below);
        })
        (interpolates y)

    -- the columns that were transformed by the inverse root and scaled
    pub recovered : (ratio : A) (width : ℕ) (ys ts cs : List A) → HoldsValues F u width (2 ^ k) ys ts
        → ((i j : ℕ) → i < 2 ^ k → j < width → get_or cs (i * width + j) 𝟘 ≡ get_or ts (i * width + j) 𝟘 ⊗ (size_inverse ⊗ pow F ratio i))
        → (j : ℕ) (x : A) → j < width → val F (strided F width (2 ^ k) cs j) x ≡ val F (interpolant F (subgroup_points F (w k) k) (strided F width (2 ^ k) ys j)) (ratio ⊗ x)
    recovered ratio width ys ts cs transformed scaled j x q =
        ap (λ c. val F c x) (
        tabulate-equal (2 ^ k) (λ i. get_or cs (i * width + j) 𝟘) (λ i. size_inverse ⊗ val F (strided F width (2 ^ k) ys j) (pow F u i) ⊗ pow F ratio i)
        (λ i l.
        scaled i j l q
        ∙ ap (λ v. v ⊗ (size_inverse ⊗ pow F ratio i)) (transformed i j l q)
        ∙ ring F L.ring 3 (λ v s p. v :* (s :* p) := s :* v :* p) refl (val F (strided F width (2 ^ k) ys j) (pow F u i)) size_inverse (pow F ratio i))
        )
        ∙ val-tabulate_stretched F L.ring (2 ^ k) (λ i. size_inverse ⊗ val F (strided F width (2 ^ k) ys j) (pow F u i)) ratio x
        ∙ ap (λ c. val F c (ratio ⊗ x)) (coefficients_are (λ i. get_or ys (i * width + j) 𝟘))
