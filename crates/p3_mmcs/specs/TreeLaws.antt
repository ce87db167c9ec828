-- An opening has the shape of its indices and dimensions.
use Rattle.std.specs.Prelude.{ℕ, List, [], ◌∷◌}
use Rattle.p3_matrix.specs.declared.Dimensions.{Dimensions}
use Rattle.p3_mmcs.specs.Batch.{HasShape}
use Rattle.p3_mmcs.specs.Tree.{Opens}

pub opens_shape : {T : Type 0} (bytes : T → List ℕ) (commitment : List ℕ) (dims : List Dimensions)
    (indices : List ℕ) (sets : List (List (List T))) (paths : List (List (List ℕ)))
    → Opens bytes commitment dims indices sets paths → HasShape dims indices sets
opens_shape bytes commitment dims [] [] [] h = tt
opens_shape bytes commitment dims [] [] (path ∷ paths) h = absurd h
opens_shape bytes commitment dims [] (set ∷ sets) paths h = absurd h
opens_shape bytes commitment dims (index ∷ indices) [] paths h = absurd h
opens_shape bytes commitment dims (index ∷ indices) (set ∷ sets) [] h = absurd h
opens_shape bytes commitment dims (index ∷ indices) (set ∷ sets) (path ∷ paths) h =
    (h.0.widths, opens_shape bytes commitment dims indices sets paths h.1)
