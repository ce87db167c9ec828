-- Matrices that are committed together, and the rows of them that an index opens.
use Rattle.std.specs.Prelude.{◌≡◌, ◌≢◌, ◌⊎◌, ◌<◌, ℕ, ◌/◌, max, List, [], ◌∷◌, length, map}
use Rattle.std.specs.Prelude.{slice_index_or, All, ⊤}
use Rattle.std.specs.Int.{IsPowerOfTwo}
use Rattle.p3_matrix.specs.declared.Dimensions.{Dimensions}
use Rattle.p3_matrix.specs.declared.dense.RowMajorMatrix.{RowMajorMatrix}
use Rattle.p3_matrix.specs.Matrix.{rows, matrix_width}

-- the greatest height, and 1 where there is no matrix
abbrev pub max_height : List Dimensions → ℕ
max_height [] = 1
max_height (d ∷ dims) = max d.height (max_height dims)

-- each of these indices lies below the bound
abbrev pub AreBelow : ℕ → List ℕ → Type 0
AreBelow bound indices = All (λ i. i < bound) indices

-- each height is a power of two
abbrev pub HavePowerHeights : List Dimensions → Type 0
HavePowerHeights dims = All (λ d. IsPowerOfTwo d.height) dims

-- one row for each matrix, of its width
abbrev pub HasRows : {T : Type 0} → List Dimensions → List (List T) → Type 0
HasRows [] [] = ⊤
HasRows (d ∷ dims) (row ∷ others) = (length row ≡ d.width) × HasRows dims others
HasRows _ _ = ⊥

-- some row isn't of its matrix's width
abbrev pub SomeWidthDiffers : {T : Type 0} → List Dimensions → List (List T) → Type 0
SomeWidthDiffers (d ∷ dims) (row ∷ others) = (length row ≢ d.width) ⊎ SomeWidthDiffers dims others
SomeWidthDiffers _ _ = ⊥

-- one such set of rows for each index
abbrev pub HasShape : {T : Type 0} → List Dimensions → List ℕ → List (List (List T)) → Type 0
HasShape dims [] [] = ⊤
HasShape dims (index ∷ indices) (set ∷ others) = HasRows dims set × HasShape dims indices others
HasShape dims _ _ = ⊥

module _ {T : Type 0} where
  -- the numbers of columns and rows of a matrix
  abbrev pub dimensions : RowMajorMatrix T → Dimensions
  dimensions matrix = record { width = matrix_width matrix; height = length (rows matrix) }

  abbrev pub dimensions_of : List (RowMajorMatrix T) → List Dimensions
  dimensions_of matrices = map dimensions matrices

  -- the row of a matrix that `index`, below the greatest height, opens: `index` itself at that
  -- height, and at a height `2^j` times smaller the quotient by `2^j`
  abbrev pub opened_row : ℕ → ℕ → RowMajorMatrix T → List T
  opened_row greatest index matrix =
      slice_index_or (rows matrix) (index / (greatest / length (rows matrix))) []

  -- the row of each matrix that `index` opens
  abbrev pub opened_rows : List (RowMajorMatrix T) → ℕ → List (List T)
  opened_rows matrices index = map (opened_row (max_height (dimensions_of matrices)) index) matrices
