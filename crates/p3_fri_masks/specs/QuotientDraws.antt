-- The random columns of a quotient's chunks, in the order in which a generator gives their values.
use Rattle.std.specs.Prelude.{ℕ, ◌*◌, List, [], ◌∷◌, length}
use Rattle.rand_core.specs.Stream.{Stream}
use Rattle.p3_matrix.specs.Words.{past}
use Rattle.p3_matrix.specs.Columns.{rows_with_random_columns}

module _ {T : Type 0} (from_word : ℕ → T) where
  -- the rows of each chunk with `r` random columns on the right, one chunk after another
  abbrev pub chunks_with_random_columns : (r : ℕ) → List (List (List T)) → Stream
      → List (List (List T))
  chunks_with_random_columns r [] s = []
  chunks_with_random_columns r (rows ∷ chunks) s =
      rows_with_random_columns from_word r rows s
      ∷ chunks_with_random_columns r chunks (past (length rows * r) s)

-- what is left of a generator after the random columns of these chunks
abbrev pub past_columns : {T : Type 0} → (r : ℕ) → List (List (List T)) → Stream → Stream
past_columns r [] s = s
past_columns r (rows ∷ chunks) s = past_columns r chunks (past (length rows * r) s)
