-- What the polynomials of masked and padded columns have of the columns themselves.
use Rattle.std.specs.Prelude.{◌≡◌, ◌<◌, ℕ, suc, ◌+◌, ◌*◌, ◌^◌, List, length, map, replicate}
use Rattle.rand_core.specs.Stream.{Stream}
use Rattle.algebra.specs.Field.{FieldOps}
use Rattle.algebra.specs.Polynomial.{val}
use Rattle.p3_field_core.specs.Coset.{coset_point, coset_points}
use Rattle.p3_matrix.specs.declared.dense.RowMajorMatrix.{RowMajorMatrix}
use Rattle.p3_matrix.specs.Matrix.{rows, matrix_width}
use Rattle.p3_dft.specs.Evaluations.{column}
use Rattle.p3_fri_masks.specs.Masked.{IsMasked}
use Rattle.p3_fri_masks.specs.Padded.{IsPadded}

module _ {A : Type 0} (F : FieldOps A) (w : ℕ → A) where
  -- the polynomial `c` has the values `ys`, in natural order, on the coset of this shift of `2^k`
  -- points
  abbrev pub HasValuesOn : (shift : A) (k : ℕ) (c ys : List A) → Type 0
  HasValuesOn shift k c ys = map (λ x. val F c x) (coset_points F (w k) shift k) ≡ ys

  -- the points of a coset at even indices are those of the coset of half the size with the same
  -- shift; those at odd indices are those of the one that starts with the second point
  pub record IsHalved (shift : A) (k : ℕ) : Type 0 where
    pub even : (i : ℕ) → coset_point F (w (suc k)) shift (2 * i) ≡ coset_point F (w k) shift i
    pub odd : (i : ℕ) → coset_point F (w (suc k)) shift (2 * i + 1)
        ≡ coset_point F (w k) (F.mul shift (w (suc k))) i

  -- a polynomial with the values of a masked column on a coset has, on the coset of half the size
  -- with the same shift, the values of the column
  abbrev pub MaskedColumnsKeepValues : (top : ℕ) → Type 0
  MaskedColumnsKeepValues top = (from_word : ℕ → A) (r : ℕ) (s : Stream)
      (values masked : RowMajorMatrix A) → IsMasked from_word r values s masked
      → (shift : A) (k : ℕ) → k < top → length (rows values) ≡ 2 ^ k
      → (j : ℕ) (c : List A) → j < matrix_width values
      → HasValuesOn shift (suc k) c (column F masked j)
      → HasValuesOn shift k c (column F values j)

  -- the same of a padded column; at the points between, such a polynomial is zero
  abbrev pub PaddedColumnsKeepValues : (top : ℕ) → Type 0
  PaddedColumnsKeepValues top = (values padded : RowMajorMatrix A) → IsPadded F.zero values padded
      → (shift : A) (k : ℕ) → k < top → length (rows values) ≡ 2 ^ k
      → (j : ℕ) (c : List A) → j < matrix_width values
      → HasValuesOn shift (suc k) c (column F padded j)
      → HasValuesOn shift k c (column F values j)
      × HasValuesOn (F.mul shift (w (suc k))) k c (replicate (2 ^ k) F.zero)
