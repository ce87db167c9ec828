-- Matrices of low-degree extensions that are committed to as they are.
use Rattle.std.specs.Prelude.{◌≡◌, ◌≤◌, ℕ, ◌+◌, ◌^◌, length}
use Rattle.p3_matrix.specs.declared.dense.RowMajorMatrix.{RowMajorMatrix}
use Rattle.p3_matrix.specs.Matrix.{rows}

-- the height is a power of two, at least the blowup, of which the field has a coset
pub record HasLdeHeight {F : Type 0} (two_adicity log_blowup : ℕ) (matrix : RowMajorMatrix F)
    : Type 0 where
  pub log_size : ℕ
  pub height : length (rows matrix) ≡ 2 ^ (log_size + log_blowup)
  pub within : log_size + log_blowup ≤ two_adicity
