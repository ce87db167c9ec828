-- Chunks of a quotient that can be masked, and the words of the masked chunks.
use Rattle.std.specs.Prelude.{◌≡◌, ◌<◌, ◌≤◌, ℕ, ◌+◌, ◌-◌, ◌*◌, ◌^◌, List, All, length, map}
use Rattle.std.specs.Prelude.{slice_index_or}
use Rattle.rand_core.specs.Stream.{Stream}
use Rattle.algebra.specs.Field.{FieldOps}
use Rattle.p3_matrix.specs.declared.dense.RowMajorMatrix.{RowMajorMatrix}
use Rattle.p3_matrix.specs.Matrix.{rows, matrix_width}
use Rattle.p3_matrix.specs.Words.{past}
use Rattle.p3_fri_masks.specs.Draws.{random_rows}
use Rattle.p3_fri_masks.specs.QuotientDraws.{chunks_with_random_columns, past_columns}
use Rattle.p3_fri_masks.specs.MaskedChunks.{HoldMaskedChunks}
use Rattle.p3_fri_masks.specs.QuotientMasks.{AreDisjoint, quotient_masks}

-- the number of the first chunk's columns
abbrev pub first_width : {A D : Type 0} → List (D × RowMajorMatrix A) → ℕ
first_width chunks = slice_index_or (map (λ e. matrix_width e.1) chunks) 0 0

-- chunks beside their domains, which have these log sizes
module _ {A D : Type 0} (log_size : D → ℕ) where
  -- the log size of the first domain
  abbrev pub first_log_size : List (D × RowMajorMatrix A) → ℕ
  first_log_size chunks = slice_index_or (map (λ e. log_size e.0) chunks) 0 0

  -- with `r` random columns, the number of a mask's coefficients
  abbrev pub mask_size : (r : ℕ) → List (D × RowMajorMatrix A) → ℕ
  mask_size r chunks = 2 ^ first_log_size chunks * (first_width chunks + r)

  -- what is left of a generator after the random columns and the random masks of the chunks
  abbrev pub past_masks : (r : ℕ) → List (D × RowMajorMatrix A) → Stream → Stream
  past_masks r chunks s = past ((length chunks - 1) * mask_size r chunks)
      (past_columns r (map (λ e. rows e.1) chunks) s)

-- the domains are cosets of these shifts
module _ {A D : Type 0} (F : FieldOps A) (shift : D → A) (log_size : D → ℕ) where
  -- there is a chunk, each has as many rows as its coset points, all are as wide as the first, the
  -- cosets are disjoint and have one size, and those that are `2^(1 + log_blowup)` times as large
  -- lie within the two-adicity
  pub record CanBeMasked (two_adicity log_blowup : ℕ) (chunks : List (D × RowMajorMatrix A))
      : Type 0 where
    pub some : 0 < length chunks
    pub heights : All (λ e. length (rows e.1) ≡ 2 ^ log_size e.0) chunks
    pub widths : All (λ e. matrix_width e.1 ≡ first_width chunks) chunks
    pub within : All (λ e. log_size e.0 + 1 + log_blowup ≤ two_adicity) chunks
    pub disjoint : AreDisjoint F (map (λ e. log_size e.0) chunks) (map (λ e. shift e.0) chunks)

  module _ (from_word : ℕ → A) (r : ℕ) (chunks : List (D × RowMajorMatrix A)) (s : Stream) where
    -- the masks of the chunks with `r` random columns: the random ones are of the words after those
    -- of the columns
    abbrev pub masks_drawn : List (List A)
    masks_drawn =
        let count = length chunks - 1 in
        let size = mask_size log_size r chunks in
        quotient_masks F count (first_log_size log_size chunks) size (map (λ e. shift e.0) chunks)
        (random_rows from_word count size (past_columns r (map (λ e. rows e.1) chunks) s))

    -- chunk by chunk, these matrices hold the words of the chunk with its random columns and its
    -- mask
    abbrev pub AreMaskedChunks : (w : ℕ → A) (generator : A) (log_blowup : ℕ)
        → List (RowMajorMatrix A) → Type 0
    AreMaskedChunks w generator log_blowup ldes =
        HoldMaskedChunks F w (first_log_size log_size chunks) generator log_blowup
        (map (λ e. shift e.0) chunks) (first_width chunks + r)
        (chunks_with_random_columns from_word r (map (λ e. rows e.1) chunks) s) masks_drawn ldes
