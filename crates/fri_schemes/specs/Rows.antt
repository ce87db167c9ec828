-- Matrices that either scheme may commit to.
use Rattle.std.specs.Prelude.{◌≡◌, ◌≤◌, ◌+◌, ◌^◌, ℕ, Bool, List, All, length, if◌then◌else◌}
use Rattle.p3_matrix.specs.declared.dense.RowMajorMatrix.{RowMajorMatrix}
use Rattle.p3_matrix.specs.Matrix.{rows, matrix_width}
use Rattle.p3_pcs.specs.Requests.{Held}
use Rattle.p3_pcs.specs.Scheme.{Scheme}

-- the logarithm of the size of the domain on which `2^log_height` rows are committed to: a scheme
-- that hides puts a random row below each
abbrev pub log_committed : (hides : Bool) (log_height : ℕ) → ℕ
log_committed hides log_height = if hides then log_height + 1 else log_height

-- over a field of this two-adicity
module _ {V : Type 0} (two_adicity : ℕ) where
  -- the matrix has a power of two of rows, the domain is that on which so many are committed to,
  -- and its extension lies within the two-adicity
  pub record FitsRows (hides : Bool) (log_blowup log_size : ℕ) (values : RowMajorMatrix V)
      : Type 0 where
    pub log_height : ℕ
    pub height : length (rows values) ≡ 2 ^ log_height
    pub size : log_size ≡ log_committed hides log_height
    pub within : log_size + log_blowup ≤ two_adicity

module _ {E C V Dom Com D Proof Error ProverError : Type 0}
    (r : Scheme E C V Dom Com D Proof Error ProverError) where
  -- the scheme commits to whatever matrices are so
  abbrev pub CommitsRows : (two_adicity : ℕ) (log_size : Dom → ℕ) (hides : Bool) (log_blowup : ℕ)
      → Type 0
  CommitsRows two_adicity log_size hides log_blowup = (evaluations : List (Dom × RowMajorMatrix V))
      → All (λ e. FitsRows two_adicity hides log_blowup (log_size e.0) e.1) evaluations
      → r.CanCommit evaluations

  -- what it commits to of a matrix has its columns
  abbrev pub KeepsColumns : Type 0
  KeepsColumns = (m : Held E) (e : Dom × RowMajorMatrix V) → r.Extends m e
      → (z : E) → length (m.values_at z) ≡ matrix_width e.1
