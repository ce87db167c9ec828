-- What a prover opens at the queries' positions.
use Rattle.std.specs.Prelude.{◌≡◌, ℕ, ◌/◌, ◌%◌, ◌^◌, ◌<◌, List, [], ◌∷◌, map, remove}
use Rattle.std.specs.Prelude.{slice_index, slice_index_or}
use Rattle.p3_matrix.specs.declared.dense.RowMajorMatrix.{RowMajorMatrix}
use Rattle.p3_matrix.specs.Matrix.{rows, matrix_width}
use Rattle.p3_mmcs.specs.Batch.{AreBelow, max_height, dimensions, dimensions_of, opened_rows}
use Rattle.p3_fri_relation.specs.Setting.{Opening, InputOpening}
use Rattle.p3_fri_relation.specs.Queries.{row_indices}

-- the index into the word that round `k` folds
abbrev pub index_into : (log_arities : List ℕ) (index k : ℕ) → ℕ
index_into log_arities index k = slice_index (index ∷ row_indices log_arities index) k

module _ {E : Type 0} where
  -- one matrix of this width
  pub record IsOneMatrix (width : ℕ) (matrices : List (RowMajorMatrix E)) : Type 0 where
    pub matrix : RowMajorMatrix E
    pub only : matrices ≡ matrix ∷ []
    pub width_of : matrix_width matrix ≡ width

  -- round `k` of these log arities can be opened at the positions: its datum holds one matrix, and
  -- the rows in which the positions lie are below its height
  pub record IsOpenable (log_arities positions : List ℕ) (k : ℕ)
      (matrices : List (RowMajorMatrix E)) : Type 0 where
    pub below_64 : slice_index log_arities k < 64
    pub one_matrix : IsOneMatrix (2 ^ slice_index log_arities k) matrices
    pub below : AreBelow (max_height (dimensions_of matrices))
        (map (λ q. slice_index (row_indices log_arities q) k) positions)

  -- the row of a matrix of `2^log_arity` columns in which the index lies
  abbrev pub row_of : (log_arity : ℕ) (matrix : RowMajorMatrix E) (index : ℕ) → List E
  row_of log_arity matrix index = slice_index_or (rows matrix) (index / 2 ^ log_arity) []

  module _ {Com Path : Type 0} (opens : Opening E Com Path) where
    -- of a matrix in rows of `2^log_arity` entries the siblings of each index, by which its row
    -- opens
    pub record OpensRows (log_arity : ℕ) (matrix : RowMajorMatrix E) (indices : List ℕ)
        (commitment : Com) (siblings : List (List E)) (path : Path) : Type 0 where
      pub siblings_of_rows : siblings
          ≡ map (λ i. remove (row_of log_arity matrix i) (i % 2 ^ log_arity)) indices
      pub opened : opens commitment (dimensions matrix ∷ [])
          (map (λ i. i / 2 ^ log_arity) indices)
          (map (λ i. row_of log_arity matrix i ∷ []) indices) path

  -- the index at which a position of log height `top` opens a batch: the position of its greatest
  -- height, which is 1 for an empty batch
  abbrev pub batch_index : (top : ℕ) (matrices : List (RowMajorMatrix E)) (position : ℕ) → ℕ
  batch_index top matrices position = position / (2 ^ top / max_height (dimensions_of matrices))

  -- the rows of the matrices at the positions, by which they open
  pub record OpensBatch {Com Path : Type 0} (opens : Opening E Com Path) (top : ℕ)
      (positions : List ℕ) (matrices : List (RowMajorMatrix E)) (commitment : Com)
      (o : InputOpening E Path) : Type 0 where
    pub rows_of_batch : o.rows
        ≡ map (λ q. opened_rows matrices (batch_index top matrices q)) positions
    pub opened : opens commitment (dimensions_of matrices)
        (map (batch_index top matrices) positions) o.rows o.path
