-- The polynomials of a quotient's chunks.
use Rattle.std.specs.Prelude.{◌≡◌, ◌<◌, ℕ, ◌+◌, ◌^◌, List, [], length, map, All, slice_index_or}
use Rattle.algebra.specs.Field.{FieldOps}
use Rattle.algebra.specs.Polynomial.{val}
use Rattle.p3_field_core.specs.Coset.{coset_point}
use Rattle.p3_uni_stark_quotient.specs.Chunked.{chunk_rows}

-- polynomials of `2^k` coefficients, `dimension` to each of `2^d` chunks, that have on the cosets
-- of the chunks the rows into which these values on the coset of `shift` are split
pub record AreChunkColumns {V A : Type 0} (F : FieldOps V) (nothing : A) (w : ℕ → V) (shift : V)
    (k d dimension : ℕ) (coefficients : A → List V) (values : List A)
    (chunks : List (List (List V))) : Type 0 where
  pub count : length chunks ≡ 2 ^ d
  pub widths : (i : ℕ) → i < 2 ^ d → length (slice_index_or chunks i []) ≡ dimension
  pub degrees : (i : ℕ) → i < 2 ^ d → All (λ c. length c ≡ 2 ^ k) (slice_index_or chunks i [])
  pub rows_there : (i j : ℕ) → i < 2 ^ d → j < 2 ^ k
      → map (λ c. val F c (coset_point F (w k) (coset_point F (w (k + d)) shift i) j))
      (slice_index_or chunks i [])
      ≡ slice_index_or (chunk_rows coefficients nothing k d values i) j []
