-- Matrices beside domains.
use Rattle.std.specs.Prelude.{◌≡◌, ◌≤◌, ℕ, ◌*◌, ◌^◌, length}
use Rattle.p3_matrix.specs.declared.dense.RowMajorMatrix.{RowMajorMatrix}
use Rattle.p3_matrix.specs.Matrix.{rows}

-- the domain of `2^log_size` points has so many times as many as the matrix has rows, at least
-- four, and is small
pub record Fits {A : Type 0} (factor log_size : ℕ) (matrix : RowMajorMatrix A) : Type 0 where
  pub scaled : factor * length (rows matrix) ≡ 2 ^ log_size
  pub least : 2 ≤ log_size
  pub most : log_size ≤ 8
