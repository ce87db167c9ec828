-- Rows with further columns on the right.
use Rattle.std.specs.Prelude.{ℕ, List, [], ◌∷◌, ◌++◌, map, replicate}
use Rattle.rand_core.specs.Stream.{Stream}
use Rattle.p3_matrix.specs.Words.{past, randoms}

-- each row, followed by `count` random values, which are drawn row by row
abbrev pub rows_with_random_columns : {T : Type 0} → (ℕ → T) → ℕ → List (List T) → Stream
    → List (List T)
rows_with_random_columns from_word count [] s = []
rows_with_random_columns from_word count (row ∷ rows) s =
    (row ++ randoms from_word count s)
    ∷ rows_with_random_columns from_word count rows (past count s)

-- each row, followed by `count` zeros
abbrev pub rows_with_zero_columns : {T : Type 0} → T → ℕ → List (List T) → List (List T)
rows_with_zero_columns zero count rows = map (λ row. row ++ replicate count zero) rows
