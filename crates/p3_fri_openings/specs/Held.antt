-- What committed data holds: the polynomials of its matrices' columns.
use Rattle.std.specs.Prelude.{◌≡◌, ℕ, ◌+◌, ◌/◌, ◌^◌, ◌<◌, List, map, length}
use Rattle.algebra.specs.Words.{IsCosetWord}
use Rattle.p3_matrix.specs.declared.dense.RowMajorMatrix.{RowMajorMatrix}
use Rattle.p3_matrix.specs.Matrix.{rows, matrix_width}
use Rattle.p3_dft.specs.Evaluations.{column}
use Rattle.p3_pcs.specs.Requests.{Held}
use Rattle.p3_fri_relation.specs.Setting.{Fields}
use Rattle.p3_fri_openings.specs.Committed.{committed_values}

module _ {F E : Type 0} (f : Fields F E) (log_blowup : ℕ) where
  -- a committed matrix: its columns' polynomials are determined on a coset `2^log_blowup` times
  -- smaller than their words'
  abbrev pub held_in : RowMajorMatrix F → Held E
  held_in matrix = record {
    size = length (rows matrix) / 2 ^ log_blowup;
    values_at = committed_values f log_blowup matrix;
  }

  -- its columns are words over the evaluation coset of polynomials of a degree `2^log_blowup` times
  -- smaller than its height
  pub record HoldsWords (matrix : RowMajorMatrix F) : Type 0 where
    pub log_size : ℕ
    pub height : length (rows matrix) ≡ 2 ^ (log_size + log_blowup)
    pub columns : (j : ℕ) → j < matrix_width matrix
        → IsCosetWord f.base f.root f.shift (log_size + log_blowup) (2 ^ log_size)
        (column f.base matrix j)

-- where data is committed to as these matrices
module _ {F E D : Type 0} (f : Fields F E) (committed : D → List (RowMajorMatrix F)) where
  -- what is held of a datum
  abbrev pub held_of : (log_blowup : ℕ) → D → List (Held E)
  held_of log_blowup datum = map (held_in f log_blowup) (committed datum)
