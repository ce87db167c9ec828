-- The data of hiding commitments.
use Rattle.std.specs.Prelude.{◌≡◌, ◌≤◌, ◌<◌, ℕ, List, length, All, slice_index_or}
use Rattle.std.specs.Prelude.{Bool, true, false, if◌then◌else◌}
use Rattle.p3_matrix.specs.declared.dense.RowMajorMatrix.{RowMajorMatrix}
use Rattle.p3_matrix.specs.Matrix.{matrix_width}
use Rattle.p3_pcs.specs.Requests.{Held}
use Rattle.p3_fri_relation.specs.Setting.{Fields}
use Rattle.p3_fri_openings.specs.Rounds.{HasCoset}
use Rattle.p3_fri_openings.specs.Held.{held_of}
use Rattle.p3_fri_hiding_openings.specs.Halves.{held_shown}
use Rattle.p3_fri_hiding_openings.specs.declared.data.HidingFriPcsProverData.{HidingFriPcsProverData}

-- data as a committing call gives it
pub record IsNew {T : Type 0} (r log_blowup : ℕ) (preprocessed : Bool)
    (d : HidingFriPcsProverData T) : Type 0 where
  pub codewords : d.num_random_codewords ≡ r
  pub blowup : d.log_blowup ≡ log_blowup
  pub kind : d.preprocessed ≡ preprocessed
  pub unopened : d.opened ≡ false

-- how many of the last columns only hide the others: none of preprocessing
abbrev pub hidden_columns : {T : Type 0} → (r : ℕ) → HidingFriPcsProverData T → ℕ
hidden_columns r d = if d.preprocessed then 0 else r

-- each matrix has the columns that hide the others
abbrev pub AreWide : {F : Type 0} → (hidden : ℕ) → List (RowMajorMatrix F) → Type 0
AreWide hidden matrices = All (λ m. hidden ≤ matrix_width m) matrices

-- where data is committed to as these matrices
module _ {F E T : Type 0} (f : Fields F E) (committed : T → List (RowMajorMatrix F))
    (log_blowup r : ℕ) where
  -- what is shown of a datum
  abbrev pub shown_polynomials : HidingFriPcsProverData T → List (Held E)
  shown_polynomials d = held_shown (λ (d : HidingFriPcsProverData T). d.inner) (hidden_columns r)
      (held_of f committed log_blowup) d

  -- a datum of this scheme: it has the scheme's codewords and blowup, and its matrices stand on
  -- cosets
  pub record IsOfScheme (d : HidingFriPcsProverData T) : Type 0 where
    pub codewords : d.num_random_codewords ≡ r
    pub blowup : d.log_blowup ≡ log_blowup
    pub cosets : All (HasCoset f.two_adicity) (committed d.inner)

  -- private data whose masks no opening has used, with the columns that hide the others
  pub record IsUnopened (d : HidingFriPcsProverData T) : Type 0 where
    pub of_scheme : IsOfScheme d
    pub wide : AreWide r (committed d.inner)
    pub private : d.preprocessed ≡ false
    pub unopened : d.opened ≡ false

  -- public preprocessing
  pub record IsPreprocessing (d : HidingFriPcsProverData T) : Type 0 where
    pub of_scheme : IsOfScheme d
    pub public : d.preprocessed ≡ true

  -- the index names a matrix of a datum with the scheme's codewords and blowup, and that matrix
  -- stands on a coset
  pub record CanReadWhole (d : HidingFriPcsProverData T) (index : ℕ) : Type 0 where
    pub codewords : d.num_random_codewords ≡ r
    pub blowup : d.log_blowup ≡ log_blowup
    pub below : index < length (committed d.inner)
    pub coset : (m : RowMajorMatrix F)
        → HasCoset f.two_adicity (slice_index_or (committed d.inner) index m)

  -- that matrix has a column beside those that hide the others
  pub record CanRead (d : HidingFriPcsProverData T) (index : ℕ) : Type 0 where
    pub whole : CanReadWhole d index
    pub wider : (m : RowMajorMatrix F)
        → hidden_columns r d < matrix_width (slice_index_or (committed d.inner) index m)
