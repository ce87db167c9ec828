-- Matrices of values on a domain, and their extensions to a larger coset.
use Rattle.std.specs.Prelude.{◌≡◌, ◌≤◌, ◌<◌, ℕ, ◌+◌, ◌^◌, List, length}
use Rattle.algebra.specs.Field.{FieldOps}
use Rattle.algebra.specs.Interpolation.{interpolant}
use Rattle.algebra.specs.Words.{coset_word}
use Rattle.p3_field_core.specs.Coset.{coset_points}
use Rattle.p3_matrix.specs.declared.dense.RowMajorMatrix.{RowMajorMatrix}
use Rattle.p3_matrix.specs.Matrix.{rows, matrix_width}
use Rattle.p3_dft.specs.Evaluations.{column}

-- the matrix is as high as a domain of size `2^log_size`, whose extension lies within the
-- two-adicity
pub record FitsDomain {A : Type 0} (two_adicity log_blowup log_size : ℕ)
    (values : RowMajorMatrix A) : Type 0 where
  pub height : length (rows values) ≡ 2 ^ log_size
  pub within : log_size + log_blowup ≤ two_adicity

module _ {A : Type 0} (F : FieldOps A) (w : ℕ → A) where
  -- the one polynomial with as many coefficients that has the values `ys`, in natural order, on the
  -- coset of this shift of `2^k` points
  abbrev pub polynomial_on : (domain_shift : A) (k : ℕ) (ys : List A) → List A
  polynomial_on domain_shift k ys = interpolant F (coset_points F (w k) domain_shift k) ys

  -- column by column, `words` holds the words over the coset of `shift` of the polynomials that
  -- have the columns of `values` on the domain
  pub record IsLowDegreeExtension (shift : A) (log_blowup : ℕ) (domain_shift : A) (k : ℕ)
      (values words : RowMajorMatrix A) : Type 0 where
    pub width : matrix_width words ≡ matrix_width values
    pub height : length (rows words) ≡ 2 ^ (k + log_blowup)
    pub columns : (j : ℕ) → j < matrix_width values → column F words j
        ≡ coset_word F w shift (k + log_blowup) (polynomial_on domain_shift k (column F values j))
