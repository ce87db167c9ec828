-- What is claimed of opened matrices, commitment by commitment, and the rows that a position opens.
use Rattle.std.specs.Prelude.{◌≡◌, ℕ, ◌/◌, ◌^◌, List, map}
use Rattle.std.specs.List.{AllZip}
use Rattle.p3_matrix.specs.declared.dense.RowMajorMatrix.{RowMajorMatrix}
use Rattle.p3_mmcs.specs.Batch.{max_height, dimensions_of, opened_rows}
use Rattle.p3_fri_relation.specs.Setting.{MatrixClaim, CommitmentClaim}
use Rattle.p3_fri_relation.specs.Heights.{log_height as claimed_height}
use Rattle.p3_fri_openings.specs.Rounds.{log_height}
use Rattle.p3_fri_batch.specs.Words.{Opened}

module _ {F E : Type 0} where
  -- a claim is that of the matrix: of its log height, and with its points and values
  pub record IsClaimOf (log_blowup : ℕ) (claim : MatrixClaim E) (m : Opened F E) : Type 0 where
    pub height : claimed_height log_blowup claim ≡ log_height m.matrix
    pub points : claim.points ≡ m.claims

  -- the claims are those of the matrices, by commitment and matrix
  abbrev pub AreClaimsOf : {InCom : Type 0} → (log_blowup : ℕ) → List (CommitmentClaim E InCom)
      → List (List (Opened F E)) → Type 0
  AreClaimsOf log_blowup claims rounds =
      AllZip (λ claim ms. AllZip (IsClaimOf log_blowup) claim.matrices ms) claims rounds

  abbrev pub matrices_in : List (Opened F E) → List (RowMajorMatrix F)
  matrices_in ms = map (λ m. m.matrix) ms

  -- the rows of matrices committed together that a position of log height `top` opens
  abbrev pub rows_opened : (top position : ℕ) → List (Opened F E) → List (List F)
  rows_opened top position ms = opened_rows (matrices_in ms)
      (position / (2 ^ top / max_height (dimensions_of (matrices_in ms))))
