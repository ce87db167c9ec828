-- Masked and padded rows by their indices.
use Rattle.std.specs.Prelude.{◌≡◌, ◌<◌, ℕ, ◌+◌, ◌*◌, List, [], ◌++◌, length, slice_index_or}
use Rattle.std.specs.Prelude.{replicate}
use Rattle.rand_core.specs.Stream.{Stream}
use Rattle.p3_matrix.specs.Words.{past, randoms}
use Rattle.p3_fri_masks.specs.Masked.{masked_rows}
use Rattle.p3_fri_masks.specs.Padded.{padded_rows}

-- there are twice as many rows; row `2 * i` is row `i` followed by `r` random values, and row
-- `2 * i + 1` is random; the words of the rows before come first
pub record HasMasksBetween {T : Type 0} (from_word : ℕ → T) (r width : ℕ) (rows : List (List T))
    (s : Stream) (masked : List (List T)) : Type 0 where
  pub height : length masked ≡ 2 * length rows
  pub even : (i : ℕ) → i < length rows → slice_index_or masked (2 * i) []
      ≡ slice_index_or rows i [] ++ randoms from_word r (past (i * (width + 2 * r)) s)
  pub odd : (i : ℕ) → i < length rows → slice_index_or masked (2 * i + 1) []
      ≡ randoms from_word (width + r) (past (i * (width + 2 * r) + r) s)

-- there are twice as many rows; row `2 * i` is row `i`, and row `2 * i + 1` is zero
pub record HasZerosBetween {T : Type 0} (zero : T) (width : ℕ) (rows padded : List (List T))
    : Type 0 where
  pub height : length padded ≡ 2 * length rows
  pub even : (i : ℕ) → i < length rows → slice_index_or padded (2 * i) []
      ≡ slice_index_or rows i []
  pub odd : (i : ℕ) → i < length rows → slice_index_or padded (2 * i + 1) []
      ≡ replicate width zero

abbrev pub MaskedRowsByIndex : Type 0 → Type 0
MaskedRowsByIndex T = (from_word : ℕ → T) (r width : ℕ) (rows : List (List T)) (s : Stream)
    → HasMasksBetween from_word r width rows s (masked_rows from_word r width rows s)

abbrev pub PaddedRowsByIndex : Type 0 → Type 0
PaddedRowsByIndex T = (zero : T) (width : ℕ) (rows : List (List T))
    → HasZerosBetween zero width rows (padded_rows zero width rows)
