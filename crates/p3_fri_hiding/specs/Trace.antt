-- What a hiding commitment has of the trace that was handed in.
use Rattle.std.specs.Prelude.{◌≡◌, ◌<◌, ◌≤◌, ℕ, ◌+◌, ◌*◌, ◌^◌, [], map, length, replicate}
use Rattle.std.specs.Prelude.{slice_index_or}
use Rattle.p3_field_core.specs.Coset.{coset_point}
use Rattle.p3_matrix.specs.declared.dense.RowMajorMatrix.{RowMajorMatrix}
use Rattle.p3_matrix.specs.Matrix.{rows, matrix_width}
use Rattle.p3_pcs.specs.Requests.{Held}
use Rattle.p3_fri_relation.specs.Setting.{Fields}

-- the domain has twice as many points as the matrix has rows, and its extension lies within the
-- two-adicity
pub record FitsMasked {F : Type 0} (two_adicity log_blowup log_size : ℕ)
    (values : RowMajorMatrix F) : Type 0 where
  pub twice : 2 * length (rows values) ≡ 2 ^ log_size
  pub within : log_size + log_blowup ≤ two_adicity

-- of a matrix on the coset of this shift and of `2^k` points
module _ {F E : Type 0} (f : Fields F E) (shift : F) (k : ℕ) (values : RowMajorMatrix F) where
  -- what is shown has, at the points of even index, the rows of `values`
  pub record HasTrace (m : Held E) : Type 0 where
    pub size : m.size ≡ 2 ^ k
    pub columns : (z : E) → length (m.values_at z) ≡ matrix_width values
    pub trace : (i : ℕ) → i < length (rows values)
        → m.values_at (f.lift (coset_point f.base (f.root k) shift (2 * i)))
        ≡ map f.lift (slice_index_or (rows values) i [])

  -- and at those of odd index it is zero
  abbrev pub HasZerosBetween : (m : Held E) → Type 0
  HasZerosBetween m = (i : ℕ) → i < length (rows values)
      → m.values_at (f.lift (coset_point f.base (f.root k) shift (2 * i + 1)))
      ≡ replicate (matrix_width values) f.ext.zero
