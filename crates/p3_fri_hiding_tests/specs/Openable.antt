-- Data of hiding commitments that may be opened or read, and requests for it.
use Rattle.std.specs.Prelude.{◌≡◌, ◌<◌, ◌≤◌, ℕ, List, [], ◌∷◌, map, length, slice_index_or, All}
use Rattle.std.specs.Prelude.{Bool, true, false, Some}
use Rattle.p3_matrix.specs.declared.dense.RowMajorMatrix.{RowMajorMatrix}
use Rattle.p3_matrix.specs.Matrix.{matrix_width}
use Rattle.p3_pcs.specs.declared.requests.OpeningRequest.{OpeningRequest}
use Rattle.p3_pcs.specs.Requests.{request}
use Rattle.p3_pcs.specs.Scheme.{Scheme, CanBeOpened}
use Rattle.p3_stark_pcs.specs.Scheme.{StarkScheme}
use Rattle.p3_fri_openings.specs.Rounds.{HasCoset}
use Rattle.p3_fri_hiding_openings.specs.Data.{hidden_columns}
use Rattle.p3_fri_hiding_openings.specs.declared.data.HidingFriPcsProverData.{
  HidingFriPcsProverData,
}

-- data of so many random codewords and a blowup of 4, whose matrices stand on cosets
pub record IsHeld {T F : Type 0} (codewords : ℕ) (d : HidingFriPcsProverData T)
    (matrices : List (RowMajorMatrix F)) : Type 0 where
  pub as_many : d.num_random_codewords ≡ codewords
  pub blowup : d.log_blowup ≡ 2
  pub cosets : All (HasCoset 27) matrices

-- preprocessing; or private data that wasn't opened, whose matrices have the columns that hide the
-- others
pub record IsFresh {T F : Type 0} (codewords : ℕ) (preprocessed : Bool)
    (d : HidingFriPcsProverData T) (matrices : List (RowMajorMatrix F)) : Type 0 where
  pub held : IsHeld codewords d matrices
  pub kind : d.preprocessed ≡ preprocessed
  pub unopened : preprocessed ≡ false → d.opened ≡ false
  pub wide : preprocessed ≡ false → All (λ m. codewords ≤ matrix_width m) matrices
  pub some : 0 < length matrices

-- a request for all matrices of such data
pub record IsAsked {T F E : Type 0} (codewords : ℕ) (committed : T → List (RowMajorMatrix F))
    (preprocessed : Bool) (r : OpeningRequest (HidingFriPcsProverData T) E) : Type 0 where
  pub fresh : IsFresh codewords preprocessed r.prover_data.now (committed r.prover_data.now.inner)
  pub counted : length r.points.items ≡ length (committed r.prover_data.now.inner)

-- requests of which the first may be for preprocessing
unfoldable pub AreAsked : {T F E : Type 0} → ℕ → (T → List (RowMajorMatrix F)) → Bool
    → List (OpeningRequest (HidingFriPcsProverData T) E) → Type 0
AreAsked codewords committed first_preprocessed [] = Unit
AreAsked codewords committed first_preprocessed (r ∷ rs) =
    IsAsked codewords committed first_preprocessed r × AreAsked codewords committed false rs

-- requests for all matrices of such data, of which the first may be preprocessing
pub record AreFresh {T F E : Type 0} (codewords : ℕ) (first_preprocessed : Bool)
    (committed : T → List (RowMajorMatrix F))
    (requests : List (OpeningRequest (HidingFriPcsProverData T) E)) : Type 0 where
  pub first : OpeningRequest (HidingFriPcsProverData T) E
  pub others : List (OpeningRequest (HidingFriPcsProverData T) E)
  pub are : requests ≡ first ∷ others
  pub first_fresh : IsFresh codewords first_preprocessed first.prover_data.now
      (committed first.prover_data.now.inner)
  pub first_counted : length first.points.items ≡ length (committed first.prover_data.now.inner)
  pub others_fresh : All (λ r. IsFresh codewords false r.prover_data.now
      (committed r.prover_data.now.inner)) others
  pub others_counted : All (λ r. length r.points.items
      ≡ length (committed r.prover_data.now.inner)) others

-- a scheme of so many random codewords opens such requests, and reads a matrix of such data that
-- has a column beside those that hide the others
pub record Opens {E C F Dom Com T Proof Error ProverError : Type 0} (codewords : ℕ)
    (committed : T → List (RowMajorMatrix F))
    (r : Scheme E C F Dom Com (HidingFriPcsProverData T) Proof Error ProverError)
    (t : StarkScheme E F Dom (HidingFriPcsProverData T) ProverError) : Type 0 where
  pub private : (requests : List (OpeningRequest (HidingFriPcsProverData T) E))
      → AreFresh codewords false committed requests → CanBeOpened r (map request requests)
  pub preprocessed : (requests : List (OpeningRequest (HidingFriPcsProverData T) E))
      → AreFresh codewords true committed requests
      → t.CanOpenAt (Some 0) (map request requests)
  pub shown : (d : HidingFriPcsProverData T) (index : ℕ) (domain : Dom)
      → IsHeld codewords d (committed d.inner) → index < length (committed d.inner)
      → ((m : RowMajorMatrix F)
      → hidden_columns codewords d < matrix_width (slice_index_or (committed d.inner) index m))
      → t.CanEvaluate d index domain
  pub whole : (d : HidingFriPcsProverData T) (index : ℕ) (domain : Dom)
      → IsHeld codewords d (committed d.inner) → index < length (committed d.inner)
      → t.CanEvaluateWhole d index domain
