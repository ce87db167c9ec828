-- Which numbers are those of claims, and the claims of such numbers.
use Rattle.std.specs.Prelude.{ℕ, List, [], map, All, IsOk}
use Rattle.std.specs.Result.{result_unwrap_or}
use Rattle.p3_pcs.specs.Claims.{PointClaim}
use Rattle.p3_fri_relation.specs.Setting.{MatrixClaim, CommitmentClaim}
use Rattle.fri_records.specs.declared.records.BatchClaims.{BatchClaims}
use Rattle.fri_statement.specs.Setting.{SchemeFields}
use Rattle.fri_numbers.specs.Numbers.{extension_of, IsExtensionElement, IsCoset}
use Rattle.fri_numbers.specs.Claims.{PointNumbers, MatrixNumbers, BatchNumbers, batch_listed}

module _ (IsPoint : List ℕ → Type 0) where
  -- the numbers of claims, by which are those of points and of domains
  pub record IsPointClaimBy (p : PointNumbers) : Type 0 where
    pub point : IsPoint p.point
    pub values : All IsPoint p.values

  module _ (IsDomain : (shift log_size : ℕ) → Type 0) where
    pub record IsMatrixClaimBy (m : MatrixNumbers) : Type 0 where
      pub domain : IsDomain m.shift m.log_size
      pub points : All IsPointClaimBy m.points

    pub record IsClaimBy (b : BatchNumbers) : Type 0 where
      pub commitment : IsOk b.commitment
      pub matrices : All IsMatrixClaimBy b.matrices

    -- the records are those of claims
    abbrev pub AreClaimsBy : List BatchClaims → Type 0
    AreClaimsBy records = All IsClaimBy (map batch_listed records)

module _ {F E : Type 0} (f : SchemeFields F E) where
  -- the same over these fields
  abbrev pub IsPointClaim : PointNumbers → Type 0
  IsPointClaim p = IsPointClaimBy (IsExtensionElement f) p

  abbrev pub IsMatrixClaim : MatrixNumbers → Type 0
  IsMatrixClaim m = IsMatrixClaimBy (IsExtensionElement f) (IsCoset f f.relation.two_adicity) m

  abbrev pub IsClaim : BatchNumbers → Type 0
  IsClaim b = IsClaimBy (IsExtensionElement f) (IsCoset f f.relation.two_adicity) b

  abbrev pub AreClaims : List BatchClaims → Type 0
  AreClaims records = AreClaimsBy (IsExtensionElement f) (IsCoset f f.relation.two_adicity) records

  -- the claims of such numbers, as the relation sees them
  abbrev pub point_of : PointNumbers → PointClaim E
  point_of p = record { point = extension_of f p.point; values = map (extension_of f) p.values }

  abbrev pub matrix_of : MatrixNumbers → MatrixClaim E
  matrix_of m = record { domain = m.log_size; points = map point_of m.points }

  abbrev pub claim_of : BatchNumbers → CommitmentClaim E (List ℕ)
  claim_of b = record {
    commitment = result_unwrap_or b.commitment [];
    matrices = map matrix_of b.matrices;
  }

  -- the claims that records list
  abbrev pub claims_listed : List BatchClaims → List (CommitmentClaim E (List ℕ))
  claims_listed records = map claim_of (map batch_listed records)
