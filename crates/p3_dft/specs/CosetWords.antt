-- Matrices whose columns are coset words, as a commitment takes them.
use Rattle.std.specs.Prelude.{◌≡◌, ◌≤◌, ◌<◌, ℕ, ◌+◌, ◌^◌, List, length}
use Rattle.algebra.specs.Field.{FieldOps}
use Rattle.algebra.specs.Interpolation.{Interpolates, interpolant}
use Rattle.algebra.specs.Words.{coset_word}
use Rattle.p3_field_core.specs.Index.{bit_reversed}
use Rattle.p3_matrix.specs.declared.dense.RowMajorMatrix.{RowMajorMatrix}
use Rattle.p3_matrix.specs.Matrix.{rows, matrix_width}
use Rattle.p3_dft.specs.Evaluations.{subgroup_points, column, AreCosetExtensions}

module _ {A : Type 0} (F : FieldOps A) (w : ℕ → A) where
  -- the one polynomial of `2^k` coefficients whose values on the subgroup of order `2^k`, in
  -- natural order, are column `j`
  abbrev pub column_polynomial : (k : ℕ) (values : RowMajorMatrix A) (j : ℕ) → List A
  column_polynomial k values j = interpolant F (subgroup_points F (w k) k) (column F values j)

  -- column by column, `words` holds the coset words of log height `k + added` of the polynomials
  -- of `2^k` coefficients that have the columns of `values` on the subgroup
  pub record HoldsCosetWords (shift : A) (k added : ℕ)
      (values words : RowMajorMatrix A) : Type 0 where
    pub width : matrix_width words ≡ matrix_width values
    pub height : length (rows words) ≡ 2 ^ (k + added)
    pub columns : (j : ℕ) → j < matrix_width values
        → column F words j ≡ coset_word F w shift (k + added) (column_polynomial k values j)
    pub values_on_subgroup : (j : ℕ) → j < matrix_width values
        → Interpolates F (subgroup_points F (w k) k) (column F values j)
        (column_polynomial k values j)

  -- extensions whose rows are put into bit-reversed order are coset words
  abbrev pub ExtensionsAreWords : (top : ℕ) → Type 0
  ExtensionsAreWords top = (shift : A) (k added : ℕ) (values extended words : RowMajorMatrix A)
      → k + added ≤ top → length (rows values) ≡ 2 ^ k
      → AreCosetExtensions F w shift k added values extended
      → rows words ≡ bit_reversed (k + added) (rows extended)
      → matrix_width words ≡ matrix_width extended
      → HoldsCosetWords shift k added values words
