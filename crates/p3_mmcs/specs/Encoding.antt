-- How many bytes a leaf has.
use Rattle.std.specs.Prelude.{ℕ, ◌+◌, ◌*◌, List, [], ◌∷◌}
use Rattle.p3_matrix.specs.declared.Dimensions.{Dimensions}

-- the bytes of one row of each matrix: its width in eight bytes, and elements of this length
abbrev pub rows_length : ℕ → List Dimensions → ℕ
rows_length len [] = 0
rows_length len (d ∷ dims) = 8 + len * d.width + rows_length len dims
