-- Which matrix of a datum is read on another domain.
use Rattle.std.specs.Prelude.{◌<◌, ℕ, List, length, slice_index_or}
use Rattle.p3_matrix.specs.declared.dense.RowMajorMatrix.{RowMajorMatrix}
use Rattle.p3_fri_relation.specs.Setting.{Fields}
use Rattle.p3_fri_openings.specs.Rounds.{HasCoset}
use Rattle.p3_fri_openings.specs.Held.{HoldsWords}

-- the index names one of these matrices, and that one stands on a coset
pub record IsMatrixOf {F : Type 0} (two_adicity : ℕ) (matrices : List (RowMajorMatrix F))
    (index : ℕ) : Type 0 where
  pub below : index < length matrices
  pub coset : (m : RowMajorMatrix F) → HasCoset two_adicity (slice_index_or matrices index m)

-- the matrix that the index names holds words of low degree
abbrev pub HoldsWordsAt : {F E : Type 0} → Fields F E → (log_blowup : ℕ)
    → List (RowMajorMatrix F) → (index : ℕ) → Type 0
HoldsWordsAt {F} f log_blowup matrices index =
    (m : RowMajorMatrix F) → HoldsWords f log_blowup (slice_index_or matrices index m)
