-- Rows that are cut in the middle.
use Rattle.std.specs.Prelude.{ℕ, List, [], ◌∷◌, take, drop}

-- each row in two, of which the first has `width` values, one below the other
abbrev pub halved_rows : {T : Type 0} → (width : ℕ) → List (List T) → List (List T)
halved_rows width [] = []
halved_rows width (row ∷ rows) = take width row ∷ drop width row ∷ halved_rows width rows
