-- Masked matrices.
use Rattle.std.specs.Prelude.{◌≡◌, ◌≤◌, ℕ, ◌+◌, ◌*◌, ◌^◌, List, [], ◌∷◌, ◌++◌, length, sum_by}
use Rattle.rand_core.specs.Stream.{Stream}
use Rattle.p3_matrix.specs.declared.dense.RowMajorMatrix.{RowMajorMatrix}
use Rattle.p3_matrix.specs.Matrix.{rows, matrix_width}
use Rattle.p3_matrix.specs.Words.{past, randoms}

-- each row of `width` values, followed by `r` random ones, and below it a random row of this
-- greater width
abbrev pub masked_rows : {T : Type 0} → (from_word : ℕ → T) → (r width : ℕ) → List (List T)
    → Stream → List (List T)
masked_rows from_word r width [] s = []
masked_rows from_word r width (row ∷ rows) s =
    (row ++ randoms from_word r s)
    ∷ randoms from_word (width + r) (past r s)
    ∷ masked_rows from_word r width rows (past (width + 2 * r) s)

module _ {T : Type 0} (from_word : ℕ → T) (r : ℕ) where
  -- how many words the masks of a matrix take
  abbrev pub mask_words : RowMajorMatrix T → ℕ
  mask_words matrix = length (rows matrix) * (matrix_width matrix + 2 * r)

  -- `masked` is the matrix, masked by the next words of the stream
  pub record IsMasked (matrix : RowMajorMatrix T) (s : Stream) (masked : RowMajorMatrix T)
      : Type 0 where
    pub entries : rows masked ≡ masked_rows from_word r (matrix_width matrix) (rows matrix) s
    pub width : matrix_width masked ≡ matrix_width matrix + r

  -- each of these matrices is masked, by the words after those of the ones before it, and what
  -- stood beside it stands beside it still
  abbrev pub AreMasked : {D : Type 0} → List (D × RowMajorMatrix T) → Stream
      → List (D × RowMajorMatrix T) → Type 0
  AreMasked [] s [] = Unit
  AreMasked [] s (m ∷ ms) = ⊥
  AreMasked (e ∷ es) s [] = ⊥
  AreMasked (e ∷ es) s (m ∷ ms) =
      (m.0 ≡ e.0) × IsMasked e.1 s m.1 × AreMasked es (past (mask_words e.1) s) ms

  -- how many words the masks of all of them take
  abbrev pub mask_words_of_all : {D : Type 0} → List (D × RowMajorMatrix T) → ℕ
  mask_words_of_all evaluations = sum_by (λ e. mask_words e.1) evaluations

-- too wide to be masked: the random values of two rows with the row before them are as many as no
-- `usize` says
abbrev pub IsTooWide : {T : Type 0} → (r : ℕ) → RowMajorMatrix T → Type 0
IsTooWide r matrix = 2 ^ 64 ≤ matrix_width matrix + 2 * r
