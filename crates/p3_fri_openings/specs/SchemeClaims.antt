-- The claims of a scheme, as the relation sees them.
use Rattle.std.specs.Prelude.{ℕ, List, map}
use Rattle.p3_pcs.specs.Claims as claimed
use Rattle.p3_fri_relation.specs.Setting.{MatrixClaim, CommitmentClaim}

module _ {E Domain : Type 0} (log_size : Domain → ℕ) where
  -- of a domain the relation reads the size alone
  abbrev pub matrix_claim : claimed.MatrixClaim E Domain → MatrixClaim E
  matrix_claim m = record { domain = log_size m.domain; points = m.points }

module _ {E Com Domain : Type 0} (log_size : Domain → ℕ) where
  abbrev pub relation_claim : claimed.Claim E Com Domain → CommitmentClaim E Com
  relation_claim c = record {
    commitment = c.commitment;
    matrices = map (matrix_claim log_size) c.matrices;
  }

  abbrev pub relation_claims : List (claimed.Claim E Com Domain) → List (CommitmentClaim E Com)
  relation_claims claims = map relation_claim claims
