-- The polynomial that has given values on one coset, and the one that has them on the subgroup.
use Rattle.std.proofs.Common.{◌≡◌, ◌≢◌, ◌≤◌, ◌<◌, ℕ, ◌+◌, ◌^◌, List, [], ◌∷◌, length, map, refl, sym, ap, ap₂, ◌∙◌, arith, get_or}
use Rattle.std.proofs.lemmas.List.{length-map}
use Rattle.algebra.specs.Field.{FieldOps, IsField, pow}
use Rattle.algebra.specs.Polynomial.{val, tabulate}
use Rattle.algebra.specs.Interpolation.{interpolant, Interpolates}
use Rattle.algebra.specs.TwoAdic.{AreRoots, pt}
use Rattle.algebra.specs.Words.{coset_word}
use Rattle.algebra.proofs.Ring.{◌:+◌, ◌:*◌, ◌:-◌, ◌:=◌, ring}
use Rattle.algebra.proofs.RingLaws.{one_mul}
use Rattle.algebra.proofs.Lists.{length-tabulate, map-tabulate, tabulate-equal, distinct_from_AllPairs}
use Rattle.algebra.proofs.Interpolation.{interpolant_interpolates, interpolates_unique}
use Rattle.algebra.proofs.Values.{stretched, val-stretched}
use Rattle.algebra.proofs.CosetWords.{length-stretched}
use Rattle.p3_field_core.specs.Coset.{coset_point, coset_points}
use Rattle.p3_field_core.proofs.Cosets.{natural_distinct}
use Rattle.p3_matrix.specs.declared.dense.RowMajorMatrix.{RowMajorMatrix}
use Rattle.p3_matrix.specs.Matrix.{rows, matrix_width}
use Rattle.p3_dft.specs.Evaluations.{subgroup_points, column}
use Rattle.p3_dft.specs.CosetWords.{HoldsCosetWords}
use Rattle.p3_dft.proofs.Coefficients.{points_distinct}
use Rattle.p3_fri_extensions.specs.Extension.{polynomial_on, IsLowDegreeExtension}

module _ {A : Type 0} (F : FieldOps A) (L : IsField F) (top : ℕ) (w : ℕ → A) (W : AreRoots F top w) where
  infixl 70 ◌⊗◌
  open F use {zero as 𝟘, one as 𝟙, mul as ◌⊗◌, inv}

  moved_back : (s g p : A) → s ≢ 𝟘 → s ⊗ ((g ⊗ inv s) ⊗ p) ≡ g ⊗ p
  moved_back s g p n =
      ring F L.ring 4 (λ s g i p. s :* ((g :* i) :* p) := (s :* i) :* (g :* p)) refl s g (inv s) p
      ∙ ap (λ u. u ⊗ (g ⊗ p)) (L.mul_inv s n)
      ∙ one_mul F L.ring (g ⊗ p)

  module _ (s : A) (n : s ≢ 𝟘) (k : ℕ) (b : k ≤ top) (ys : List A) (size : length ys ≡ 2 ^ k) where
    q : List A
    q = polynomial_on F w s k ys

    q-interpolates : Interpolates F (coset_points F (w k) s k) ys q
    unfolding q
    q-interpolates =
        interpolant_interpolates F L (coset_points F (w k) s k) ys
        (length-tabulate (2 ^ k) (coset_point F (w k) s) ∙ sym size)
        (distinct_from_AllPairs (coset_points F (w k) s k) (natural_distinct F L top w W k b s n))

    value : (x : A) → val F (stretched F 𝟙 s q) x ≡ val F q (s ⊗ x)
    value x = val-stretched F L.ring 𝟙 s q x ∙ one_mul F L.ring (val F q (s ⊗ x))

    stretched-interpolates : Interpolates F (subgroup_points F (w k) k) ys (stretched F 𝟙 s q)
    stretched-interpolates = record {
      count = length-stretched F 𝟙 s q ∙ q-interpolates.count
          ∙ length-tabulate (2 ^ k) (coset_point F (w k) s)
          ∙ sym (length-tabulate (2 ^ k) (λ i. pow F (w k) i));
      values =
          map-tabulate (λ x. val F (stretched F 𝟙 s q) x) (2 ^ k) (λ i. pow F (w k) i)
          ∙ tabulate-equal (2 ^ k) (λ i. val F (stretched F 𝟙 s q) (pow F (w k) i))
          (λ i. val F q (coset_point F (w k) s i)) (λ i l. value (pow F (w k) i))
          ∙ sym (map-tabulate (λ x. val F q x) (2 ^ k) (coset_point F (w k) s))
          ∙ q-interpolates.values;
    }

    same : interpolant F (subgroup_points F (w k) k) ys ≡ stretched F 𝟙 s q
    same =
        interpolates_unique F L (subgroup_points F (w k) k) ys
        (interpolant F (subgroup_points F (w k) k) ys) (stretched F 𝟙 s q)
        (points_distinct F L top w W k b)
        (interpolant_interpolates F L (subgroup_points F (w k) k) ys
        (length-tabulate (2 ^ k) (λ i. pow F (w k) i) ∙ sym size)
        (points_distinct F L top w W k b))
        stretched-interpolates

    pub moved_word : (g : A) (m : ℕ)
        → coset_word F w (g ⊗ inv s) m (interpolant F (subgroup_points F (w k) k) ys)
        ≡ coset_word F w g m (polynomial_on F w s k ys)
    unfolding q
    moved_word g m =
        tabulate-equal (2 ^ m)
        (λ i. val F (interpolant F (subgroup_points F (w k) k) ys) ((g ⊗ inv s) ⊗ pt F w i m))
        (λ i. val F (polynomial_on F w s k ys) (g ⊗ pt F w i m))
        (λ i l. ap (λ c. val F c ((g ⊗ inv s) ⊗ pt F w i m)) same
        ∙ value ((g ⊗ inv s) ⊗ pt F w i m)
        ∙ ap (λ x. val F (polynomial_on F w s k ys) x) (moved_back s g (pt F w i m) n))

  pub extension_is : (s g : A) → s ≢ 𝟘 → (k added : ℕ) → k + added ≤ top
      → (values words : RowMajorMatrix A) → length (rows values) ≡ 2 ^ k
      → HoldsCosetWords F w (g ⊗ inv s) k added values words
      → IsLowDegreeExtension F w g added s k values words
  extension_is s g n k added b values words size holds = record {
    width = holds.width;
    height = holds.height;
    columns = λ j l. holds.columns j l
        ∙ moved_word s n k (omega (arith, b)) (column F values j)
        (length-map (rows values) (λ entries. get_or entries j 𝟘) ∙ size) g (k + added);
  }
