-- One claim as lists and numbers, and what the queries read of all claims.
use Rattle.std.specs.Prelude.{◌≡◌, ◌≢◌, ℕ, ◌<◌, ◌≤◌, All, List, [], length, map, slice_index_or}
use Rattle.std.specs.List.{flat_map}
use Rattle.algebra.specs.Field.{FieldOps, sub}
use Rattle.algebra.specs.Polynomial.{val}
use Rattle.p3_mmcs.specs.declared.openings.CommitmentOpening.{CommitmentOpening}
use Rattle.p3_mmcs.specs.Batch.{HasRows}
use Rattle.p3_fri_relation.specs.Setting.{MatrixClaim, CommitmentClaim, InputOpening}
use Rattle.p3_fri_relation.specs.Heights.{log_height, width, dimensions}
use Rattle.p3_fri_relation.specs.Inputs.{HasPoints}
use Rattle.p3_fri_relation.specs.declared.proof.BatchMultiOpening.{BatchMultiOpening}
use Rattle.algebra.specs.Nested.{nested}
use Rattle.p3_fri_relation.specs.Views.{matrix_claim}

module _ {E InCom Domain : Type 0} (log_size : Domain → ℕ) where
  -- where `log_size` gives the logarithm of a domain's size
  abbrev pub claim_of : CommitmentOpening E InCom Domain → CommitmentClaim E InCom
  claim_of c = record {
    commitment = c.commitment;
    matrices = map (matrix_claim log_size) c.matrices.items;
  }

module _ {E : Type 0} (K : FieldOps E) where
  -- the claimed values of each point, combined by `alpha`
  abbrev pub combined_values : (alpha : E) → List (MatrixClaim E) → List E
  combined_values alpha ms = flat_map (λ m. map (λ z. val K z.values alpha) m.points) ms

  -- how far each point is from the one read at its matrix's log height
  abbrev pub distances : (log_blowup : ℕ) (read : ℕ → E) → List (MatrixClaim E) → List E
  distances log_blowup read ms =
      flat_map (λ m. map (λ z. sub K z.point (read (log_height log_blowup m))) m.points) ms

-- no claimed point of the matrix is the one that is read at its log height
abbrev pub IsApart : {E : Type 0} (log_blowup : ℕ) (read : ℕ → E) → MatrixClaim E → Type 0
IsApart log_blowup read m = All (λ z. z.point ≢ read (log_height log_blowup m)) m.points

-- as many values are claimed of the matrix at each point as at the first
abbrev pub IsEven : {E : Type 0} → MatrixClaim E → Type 0
IsEven m = All (λ z. length z.values ≡ width m) m.points

-- at most as many values as this
abbrev pub IsWithin : {E : Type 0} (powers : ℕ) → MatrixClaim E → Type 0
IsWithin powers m = All (λ z. length z.values ≤ powers) m.points

-- what a commitment opens
abbrev pub input_of : {F M Com Data Path Err : Type 0} → BatchMultiOpening F M Com Data Path Err
    → InputOpening F Path
input_of o = record { rows = nested o.opened_values.items; path = o.opening_proof }

-- a matrix with points, of a log height below `count` and a width of at most `powers`
pub record IsReadable {E : Type 0} (log_blowup count powers : ℕ) (m : MatrixClaim E) : Type 0 where
  pub height : log_height log_blowup m < count
  pub within : width m ≤ powers
  pub points : HasPoints m

-- a commitment opens one row of its width for each of its matrices at the query
pub record HasRowsAt {F E InCom InPath : Type 0} (log_blowup query : ℕ)
    (claim : CommitmentClaim E InCom) (o : InputOpening F InPath) : Type 0 where
  pub there : query < length o.rows
  pub rows : HasRows (map (dimensions log_blowup) claim.matrices) (slice_index_or o.rows query [])
