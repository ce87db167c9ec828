-- What the scheme's data holds.
use Rattle.std.specs.Prelude.{◌≡◌, ◌≤◌, ℕ, ◌^◌}
use Rattle.p3_field_core.specs.Coset.{coset_point}
use Rattle.p3_matrix.specs.declared.dense.RowMajorMatrix.{RowMajorMatrix}
use Rattle.p3_pcs.specs.Requests.{Held}
use Rattle.p3_stark_pcs.specs.Evaluations.{HasPolynomials, HaveRows}
use Rattle.p3_fri_relation.specs.Setting.{Fields}
use Rattle.p3_fri_two_adic.specs.Chunks.{polynomials_on}

-- a height for which the field has a subgroup
pub record IsSubgroupSize (two_adicity n : ℕ) : Type 0 where
  pub log_size : ℕ
  pub size : n ≡ 2 ^ log_size
  pub within : log_size ≤ two_adicity

-- what is held are the polynomials that have the columns of `values` on the coset of this shift and
-- of `2^k` points: at each of these they have its row
pub record Extends {F E : Type 0} (f : Fields F E) (shift : F) (k : ℕ) (values : RowMajorMatrix F)
    (m : Held E) : Type 0 where
  pub polynomials : HasPolynomials m (polynomials_on f shift k values)
  pub have_rows : HaveRows f.lift (coset_point f.base (f.root k) shift) 1 values m
