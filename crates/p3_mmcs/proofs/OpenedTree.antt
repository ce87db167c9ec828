-- What is opened belongs to the commitment.
use Rattle.std.proofs.Common.{◌≡◌, ℕ, ◌/◌, ◌^◌, ◌<◌, List, [], ◌∷◌, length, map, ap, sym}
use Rattle.std.proofs.Common.{◌∙◌, arith, All}
use Rattle.algebra.proofs.Lists.{Each, each_from_All, length-tabulate}
use Rattle.p3_matrix.specs.declared.dense.RowMajorMatrix.{RowMajorMatrix}
use Rattle.p3_matrix.specs.Matrix.{rows}
use Rattle.p3_matrix.proofs.Widths.{row_width}
use Rattle.p3_mmcs.specs.Batch.{max_height, HavePowerHeights, HasRows, dimensions_of, opened_row}
use Rattle.p3_mmcs.specs.Batch.{opened_rows}
use Rattle.p3_mmcs.specs.Tree.{OpensAt, Opens, leaf_at, root_of, path_of, digest_at, sibling_of}
use Rattle.p3_mmcs.proofs.Heights.{Quotient, quotient_at}
use Rattle.p3_mmcs.proofs.Paths.{climb-path_of}

module _ {T : Type 0} where
  rows_opened : (greatest index : ℕ) → index < greatest → (matrices : List (RowMajorMatrix T))
      → Each (λ matrix. Quotient greatest (length (rows matrix))) matrices
      → HasRows (dimensions_of matrices) (map (opened_row greatest index) matrices)
  rows_opened greatest index l [] e = tt
  rows_opened greatest index l (matrix ∷ matrices) e = (
    row_width matrix (index / (greatest / length (rows matrix))) (e.0.row_below index l),
    rows_opened greatest index l matrices e.1,
  )

  module _ (bytes : T → List ℕ) (matrices : List (RowMajorMatrix T))
      (powers : HavePowerHeights (dimensions_of matrices)) (m : ℕ)
      (greatest : max_height (dimensions_of matrices) ≡ 2 ^ m) where
    opens_at : (index : ℕ) → index < 2 ^ m
        → OpensAt bytes (root_of (leaf_at bytes matrices) m) (dimensions_of matrices) index
        (opened_rows matrices index) (path_of (leaf_at bytes matrices) m index)
    opens_at index l = record {
      widths = rows_opened (max_height (dimensions_of matrices)) index
          (omega (arith, l, greatest)) matrices
          (each_from_All (λ matrix.
          Quotient (max_height (dimensions_of matrices)) (length (rows matrix))) matrices
          (quotient_at matrices powers));
      levels = ap (λ n. 2 ^ n) (length-tabulate m (λ level.
          digest_at (leaf_at bytes matrices) level (sibling_of (index / 2 ^ level))))
          ∙ sym greatest;
      root = climb-path_of (leaf_at bytes matrices) m index l;
    }

    opens_each : (indices : List ℕ) → Each (λ i. i < 2 ^ m) indices
        → Opens bytes (root_of (leaf_at bytes matrices) m) (dimensions_of matrices) indices
        (map (opened_rows matrices) indices) (map (path_of (leaf_at bytes matrices) m) indices)
    opens_each [] e = tt
    opens_each (index ∷ indices) e = (opens_at index e.0, opens_each indices e.1)

    pub opens_all : (indices : List ℕ) → All (λ i. i < 2 ^ m) indices
        → Opens bytes (root_of (leaf_at bytes matrices) m) (dimensions_of matrices) indices
        (map (opened_rows matrices) indices) (map (path_of (leaf_at bytes matrices) m) indices)
    opens_all indices below = opens_each indices (each_from_All (λ i. i < 2 ^ m) indices below)
