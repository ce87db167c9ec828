-- The chunks of a quotient, each on its own domain.
use Rattle.std.specs.Prelude.{◌≡◌, ℕ, ◌^◌, List, map, length, All}
use Rattle.algebra.specs.Field.{FieldOps}
use Rattle.p3_matrix.specs.declared.dense.RowMajorMatrix.{RowMajorMatrix}
use Rattle.p3_matrix.specs.Matrix.{rows, matrix_width}
use Rattle.p3_uni_stark_identity.specs.Chunks.{chunk_shifts}

-- `2^d` matrices of `dimension` columns, on the cosets of `2^k` points into which the coset of
-- `generator` is split
pub record AreChunkPairs {V Dom : Type 0} (F : FieldOps V) (root : ℕ → V) (generator : V)
    (dimension : ℕ) (shift : Dom → V) (log_size : Dom → ℕ) (k d : ℕ)
    (chunks : List (Dom × RowMajorMatrix V)) : Type 0 where
  pub shifts : map (λ e. shift e.0) chunks ≡ chunk_shifts F root generator k d
  pub sizes : All (λ e. log_size e.0 ≡ k) chunks
  pub heights : All (λ e. length (rows e.1) ≡ 2 ^ k) chunks
  pub widths : All (λ e. matrix_width e.1 ≡ dimension) chunks
