-- Random rows and matrices, in the order in which a generator gives their values.
use Rattle.std.specs.Prelude.{◌≡◌, ℕ, zero, suc, ◌*◌, List, [], ◌∷◌, sum_by}
use Rattle.rand_core.specs.Stream.{Stream}
use Rattle.p3_matrix.specs.declared.dense.RowMajorMatrix.{RowMajorMatrix}
use Rattle.p3_matrix.specs.Matrix.{rows, matrix_width}
use Rattle.p3_matrix.specs.Words.{past, randoms}

module _ {T : Type 0} (from_word : ℕ → T) where
  -- `count` random rows of `width` values, one row after another
  abbrev pub random_rows : (count width : ℕ) → Stream → List (List T)
  random_rows zero width s = []
  random_rows (suc count) width s =
      randoms from_word width s ∷ random_rows count width (past width s)

  -- the matrix has so many random rows, of so many columns
  pub record IsRandom (height width : ℕ) (s : Stream) (matrix : RowMajorMatrix T) : Type 0 where
    pub entries : rows matrix ≡ random_rows height width s
    pub columns : matrix_width matrix ≡ width

  -- of domains of these sizes
  module _ {D : Type 0} (size : D → ℕ) (width : ℕ) where
    -- beside each domain stands a random matrix as high as the domain has points, of the words
    -- after those of the ones before it
    abbrev pub AreRandom : List D → Stream → List (D × RowMajorMatrix T) → Type 0
    AreRandom [] s [] = Unit
    AreRandom [] s (m ∷ ms) = ⊥
    AreRandom (d ∷ ds) s [] = ⊥
    AreRandom (d ∷ ds) s (m ∷ ms) =
        (m.0 ≡ d) × IsRandom (size d) width s m.1 × AreRandom ds (past (size d * width) s) ms

    -- how many words these matrices take
    abbrev pub random_words : List D → ℕ
    random_words domains = sum_by (λ d. size d * width) domains
