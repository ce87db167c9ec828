-- Polynomials in the columns of matrices: their coefficients, and their values.
use Rattle.std.specs.Prelude.{◌≡◌, ℕ, ◌+◌, ◌^◌, ◌<◌, List, length, map, slice_index_or}
use Rattle.algebra.specs.Field.{FieldOps, pow}
use Rattle.algebra.specs.Polynomial.{val, tabulate}
use Rattle.algebra.specs.Interpolation.{Interpolates, interpolant}
use Rattle.p3_field_core.specs.Coset.{coset_points}
use Rattle.p3_matrix.specs.declared.dense.RowMajorMatrix.{RowMajorMatrix}
use Rattle.p3_matrix.specs.Matrix.{rows, matrix_width}

module _ {A : Type 0} (F : FieldOps A) where
  -- the powers of `w`, from one on: the subgroup of order `2^k` that a root of unity of that order
  -- generates
  abbrev pub subgroup_points : (w : A) (k : ℕ) → List A
  subgroup_points w k = tabulate (2 ^ k) (λ i. pow F w i)

  -- column `j` of the matrix (zero is the default of that look-up, which no column within the
  -- width needs)
  abbrev pub column : (matrix : RowMajorMatrix A) (j : ℕ) → List A
  column matrix j = map (λ entries. slice_index_or entries j F.zero) (rows matrix)

  -- each column of `values` holds the values at `points` of the polynomial whose coefficients, as
  -- many as points, stand in that column of `coefficients`
  pub record AreEvaluations (points : List A)
      (coefficients values : RowMajorMatrix A) : Type 0 where
    pub width : matrix_width values ≡ matrix_width coefficients
    pub height : length (rows values) ≡ length (rows coefficients)
    pub columns : (j : ℕ) → j < matrix_width coefficients
        → Interpolates F points (column values j) (column coefficients j)

  -- the values at `others` of the one polynomial of as many coefficients as there are `points`
  -- that has there the values `ys`
  abbrev pub extension : (points others ys : List A) → List A
  extension points others ys = map (λ x. val F (interpolant F points ys) x) others

  -- each column of `extended` is the extension of that column of `values`
  pub record AreExtensions (points others : List A)
      (values extended : RowMajorMatrix A) : Type 0 where
    pub width : matrix_width extended ≡ matrix_width values
    pub height : length (rows extended) ≡ length others
    pub columns : (j : ℕ) → j < matrix_width values
        → column extended j ≡ extension points others (column values j)

  -- the extensions from the subgroup of order `2^k` to the coset of `shift` of order
  -- `2^(k + added)`, where `w j` is the root of unity of order `2^j`
  abbrev pub AreCosetExtensions : (w : ℕ → A) (shift : A) (k added : ℕ)
      (values extended : RowMajorMatrix A) → Type 0
  AreCosetExtensions w shift k added values extended =
      AreExtensions (subgroup_points (w k) k) (coset_points F (w (k + added)) shift (k + added))
      values extended
