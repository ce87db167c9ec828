-- The polynomials that committed matrices stand for, and their values.
use Rattle.std.specs.Prelude.{ℕ, ◌/◌, ◌^◌, List, length, map, take}
use Rattle.algebra.specs.Field.{sub}
use Rattle.algebra.specs.Polynomial.{tabulate}
use Rattle.algebra.specs.Cosets.{coset_pt}
use Rattle.algebra.specs.Interpolation.{interpolant}
use Rattle.algebra.specs.Quotients.{values_at}
use Rattle.p3_matrix.specs.declared.dense.RowMajorMatrix.{RowMajorMatrix}
use Rattle.p3_matrix.specs.Matrix.{matrix_width}
use Rattle.p3_dft.specs.Evaluations.{column}
use Rattle.p3_fri_relation.specs.Setting.{Fields}
use Rattle.p3_fri_openings.specs.Log2.{log2}

module _ {F E : Type 0} (f : Fields F E) where
  -- the evaluation coset of `n` points, a power of two, in bit-reversed order
  abbrev pub coset_of : (n : ℕ) → List F
  coset_of n = tabulate n (λ i. coset_pt f.base f.root f.shift i (log2 n))

  -- the inverse differences of `z` and its points
  abbrev pub inverse_differences : (z : E) (n : ℕ) → List E
  inverse_differences z n = map (λ x. f.ext.inv (sub f.ext z (f.lift x))) (coset_of n)

  module _ (log_blowup : ℕ) where
    -- the polynomial of a column of values on an evaluation coset: the one of a degree
    -- `2^log_blowup` times smaller than the coset that the first entries determine
    abbrev pub committed_column : (ys : List F) → List F
    committed_column ys =
        let n = length ys / 2 ^ log_blowup in interpolant f.base (coset_of n) (take n ys)

    -- the polynomials of a matrix's columns
    abbrev pub committed : RowMajorMatrix F → List (List F)
    committed matrix =
        tabulate (matrix_width matrix) (λ j. committed_column (column f.base matrix j))

    -- their values at a point
    abbrev pub committed_values : RowMajorMatrix F → (z : E) → List E
    committed_values matrix z = values_at f.base f.ext f.lift (committed matrix) z
