-- Chunks of a quotient that the scheme extends.
use Rattle.std.specs.Prelude.{◌≡◌, ◌<◌, ℕ, List, length}
use Rattle.algebra.specs.Field.{FieldOps}
use Rattle.p3_matrix.specs.declared.dense.RowMajorMatrix.{RowMajorMatrix}
use Rattle.p3_fri_masks.specs.QuotientLdes.{CanBeMasked}

-- the chunks are as many as is said, more than one, and can be masked: of one height and width, on
-- disjoint cosets of that size
pub record CanExtend {A D : Type 0} (F : FieldOps A) (shift : D → A) (log_size : D → ℕ)
    (two_adicity log_blowup : ℕ) (chunks : List (D × RowMajorMatrix A)) (num_chunks : ℕ) : Type 0
  where
    pub several : 1 < num_chunks
    pub one_each : length chunks ≡ num_chunks
    pub masked : CanBeMasked F shift log_size two_adicity log_blowup chunks
