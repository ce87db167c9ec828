-- Chunks of a quotient.
use Rattle.std.specs.Prelude.{ℕ, ◌^◌, List, map, slice_index_or}
use Rattle.algebra.specs.Polynomial.{tabulate}
use Rattle.algebra.specs.Quotients.{values_at}
use Rattle.algebra.specs.RecombinedQuotients.{recombined_columns}
use Rattle.p3_matrix.specs.declared.dense.RowMajorMatrix.{RowMajorMatrix}
use Rattle.p3_matrix.specs.Matrix.{matrix_width}
use Rattle.p3_dft.specs.Evaluations.{column}
use Rattle.p3_pcs.specs.Requests.{Held}
use Rattle.p3_fri_extensions.specs.Extension.{polynomial_on}
use Rattle.p3_fri_relation.specs.Setting.{Fields}

module _ {F E : Type 0} (f : Fields F E) where
  -- the polynomials that have the columns of `values` on the coset of this shift and of `2^k`
  -- points
  abbrev pub polynomials_on : (shift : F) (k : ℕ) (values : RowMajorMatrix F) → Held E
  polynomials_on shift k values = record {
    size = 2 ^ k;
    values_at = λ z. values_at f.base f.ext f.lift (tabulate (matrix_width values)
        (λ j. polynomial_on f.base f.root shift k (column f.base values j))) z;
  }

  -- the recombined quotients at `z` of chunks on the cosets of these shifts, whose sizes are
  -- that of the first, where `rows` has for each chunk its columns' values there
  abbrev pub recombined_on : (log_sizes : List ℕ) (shifts : List F) (rows : List (List E)) (z : E)
      → List E
  recombined_on log_sizes shifts rows z =
      recombined_columns f.ext (slice_index_or log_sizes 0 0) (map f.lift shifts) rows z
