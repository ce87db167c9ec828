-- Matrices with rows of zeros between their rows, as public preprocessing is committed.
use Rattle.std.specs.Prelude.{◌≡◌, ℕ, List, [], ◌∷◌, replicate}
use Rattle.p3_matrix.specs.declared.dense.RowMajorMatrix.{RowMajorMatrix}
use Rattle.p3_matrix.specs.Matrix.{rows, matrix_width}

-- each row, and below it one of `width` zeros
abbrev pub padded_rows : {T : Type 0} → (zero : T) → (width : ℕ) → List (List T) → List (List T)
padded_rows zero width [] = []
padded_rows zero width (row ∷ rows) = row ∷ replicate width zero ∷ padded_rows zero width rows

-- `padded` is the matrix, with a row of zeros below each of its rows
pub record IsPadded {T : Type 0} (zero : T) (matrix padded : RowMajorMatrix T) : Type 0 where
  pub entries : rows padded ≡ padded_rows zero (matrix_width matrix) (rows matrix)
  pub width : matrix_width padded ≡ matrix_width matrix
