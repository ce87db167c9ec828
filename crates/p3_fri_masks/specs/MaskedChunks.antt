-- Chunks of a quotient with their masks.
use Rattle.std.specs.Prelude.{◌≡◌, ◌<◌, ◌≤◌, ℕ, ◌+◌, ◌*◌, ◌^◌, List, [], All, length, map}
use Rattle.std.specs.Prelude.{slice_index_or}
use Rattle.algebra.specs.Field.{FieldOps}
use Rattle.algebra.specs.Interpolation.{interpolant}
use Rattle.algebra.specs.RecombinedQuotients.{masked_chunk}
use Rattle.algebra.specs.Words.{coset_word}
use Rattle.p3_field_core.specs.Coset.{coset_points}
use Rattle.p3_matrix.specs.declared.dense.RowMajorMatrix.{RowMajorMatrix}
use Rattle.p3_matrix.specs.Matrix.{rows, matrix_width}
use Rattle.p3_dft.specs.Evaluations.{column}
use Rattle.p3_dft.specs.Strided.{strided}

module _ {A : Type 0} (F : FieldOps A) where
  -- column `j` of a matrix of these rows
  abbrev pub column_of : (entries : List (List A)) (j : ℕ) → List A
  column_of entries j = map (λ row. slice_index_or row j F.zero) entries

module _ {A : Type 0} (F : FieldOps A) (w : ℕ → A) (k : ℕ) where
  -- the polynomial of column `j` of a chunk on the coset of this shift of `2^k` points, with its
  -- mask: `q + Z t`, where `q` has the column's values there, `Z` vanishes there, and `t` is
  -- column `j` of the mask
  abbrev pub masked_polynomial : (shift : A) (width : ℕ) (chunk : List (List A)) (mask : List A)
      (j : ℕ) → List A
  masked_polynomial shift width chunk mask j = masked_chunk F shift k
      (interpolant F (coset_points F (w k) shift k) (column_of F chunk j))
      (strided F width (2 ^ k) mask j)

  -- column by column, the matrix holds the words of a masked chunk's polynomials over the coset of
  -- `shift`, which is `2^(1 + log_blowup)` times as large as the chunk's
  pub record HoldsMaskedChunk (shift : A) (log_blowup : ℕ) (domain_shift : A) (width : ℕ)
      (chunk : List (List A)) (mask : List A) (matrix : RowMajorMatrix A) : Type 0 where
    pub columns : matrix_width matrix ≡ width
    pub height : length (rows matrix) ≡ 2 ^ (k + 1 + log_blowup)
    pub words : (j : ℕ) → j < width → column F matrix j
        ≡ coset_word F w shift (k + 1 + log_blowup)
        (masked_polynomial domain_shift width chunk mask j)

  -- chunk by chunk, the matrices hold the words of these chunks with these masks, of `width`
  -- columns each, on the cosets of these shifts
  pub record HoldMaskedChunks (shift : A) (log_blowup : ℕ) (domain_shifts : List A) (width : ℕ)
      (chunks : List (List (List A))) (masks : List (List A)) (matrices : List (RowMajorMatrix A))
      : Type 0 where
    pub count : length matrices ≡ length chunks
    pub held : (i : ℕ) (m : RowMajorMatrix A) → i < length matrices
        → HoldsMaskedChunk shift log_blowup (slice_index_or domain_shifts i F.zero) width
        (slice_index_or chunks i []) (slice_index_or masks i []) (slice_index_or matrices i m)

-- matrices with masks, on cosets of these log sizes: the cosets have one size, each matrix is as
-- high as they have points and has `width` columns, each mask has a coefficient for each entry of
-- its matrix, and the cosets that are `2^(1 + log_blowup)` times as large lie within the
-- two-adicity
pub record FitMasks {A : Type 0} (two_adicity log_blowup k width : ℕ) (log_sizes : List ℕ)
    (matrices : List (RowMajorMatrix A)) (masks : List (List A)) : Type 0 where
  pub one_size : All (λ n. n ≡ k) log_sizes
  pub count : length matrices ≡ length log_sizes
  pub heights : All (λ m. length (rows m) ≡ 2 ^ k) matrices
  pub widths : All (λ m. matrix_width m ≡ width) matrices
  pub count_masks : length masks ≡ length log_sizes
  pub sizes : All (λ mask. length mask ≡ 2 ^ k * width) masks
  pub within : k + 1 + log_blowup ≤ two_adicity
