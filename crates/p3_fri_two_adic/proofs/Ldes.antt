-- Matrices of low-degree extensions, by their heights.
use Rattle.std.proofs.Common.{◌≤◌, ℕ, ◌+◌, List, [], ◌∷◌, All, sym, ap, ◌∙◌, subst}
use Rattle.std.specs.Int.{IsPowerOfTwo}
use Rattle.algebra.proofs.Lists.{Each, each_from_All, All_from_each}
use Rattle.p3_matrix.specs.declared.dense.RowMajorMatrix.{RowMajorMatrix}
use Rattle.p3_mmcs.specs.Batch.{dimensions_of, HavePowerHeights}
use Rattle.p3_fri_openings.specs.Log2.{log2}
use Rattle.p3_fri_openings.specs.Rounds.{HasCoset}
use Rattle.p3_fri_openings.proofs.Log2.{log2-pow}
use Rattle.p3_fri_two_adic.specs.Ldes.{HasLdeHeight}

module _ {F : Type 0} (two_adicity b : ℕ) where
  each_power : (matrices : List (RowMajorMatrix F)) → Each (HasLdeHeight two_adicity b) matrices
      → Each (λ d. IsPowerOfTwo d.height) (dimensions_of matrices)
  each_power [] h = tt
  each_power (m ∷ matrices) h = ((h.0.log_size + b, h.0.height), each_power matrices h.1)

  pub power_heights : (matrices : List (RowMajorMatrix F))
      → All (HasLdeHeight two_adicity b) matrices → HavePowerHeights (dimensions_of matrices)
  power_heights matrices h = All_from_each (λ d. IsPowerOfTwo d.height) (dimensions_of matrices)
      (each_power matrices (each_from_All (HasLdeHeight two_adicity b) matrices h))

  has_coset : (matrix : RowMajorMatrix F) → HasLdeHeight two_adicity b matrix
      → HasCoset two_adicity matrix
  has_coset matrix h = record {
    power = (h.log_size + b, h.height);
    within = subst (λ n. n ≤ two_adicity) (sym (ap log2 h.height ∙ log2-pow (h.log_size + b)))
        h.within;
  }

  each_coset : (matrices : List (RowMajorMatrix F)) → Each (HasLdeHeight two_adicity b) matrices
      → Each (HasCoset two_adicity) matrices
  each_coset [] h = tt
  each_coset (m ∷ matrices) h = (has_coset m h.0, each_coset matrices h.1)

  pub cosets_of_ldes : (matrices : List (RowMajorMatrix F))
      → All (HasLdeHeight two_adicity b) matrices → All (HasCoset two_adicity) matrices
  cosets_of_ldes matrices h = All_from_each (HasCoset two_adicity) matrices
      (each_coset matrices (each_from_All (HasLdeHeight two_adicity b) matrices h))
