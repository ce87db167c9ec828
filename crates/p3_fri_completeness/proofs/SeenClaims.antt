-- Claims without the memory that holds them, as the relation sees them.
use Rattle.std.proofs.Common.{◌≡◌, ℕ, List, [], ◌∷◌, map, refl, ap, ◌∙◌}
use Rattle.p3_mmcs.specs.declared.openings.MatrixOpening.{MatrixOpening}
use Rattle.p3_mmcs.specs.declared.openings.CommitmentOpening.{CommitmentOpening}
use Rattle.p3_pcs.specs.Claims as claimed
use Rattle.p3_fri_relation.specs.Setting.{MatrixClaim, CommitmentClaim}
use Rattle.p3_fri_relation.specs.Views as view
use Rattle.p3_fri_openings.specs.SchemeClaims.{matrix_claim, relation_claims}

module _ {E Domain : Type 0} (log_size : Domain → ℕ) where
  matrices_are : (matrices : List (MatrixOpening E Domain))
      → map (matrix_claim log_size) (map claimed.matrix_claim matrices) ≡ map
      (view.matrix_claim log_size) matrices
  matrices_are [] = refl
  matrices_are (m ∷ matrices) =
      ap (λ rest. view.matrix_claim log_size m ∷ rest) (matrices_are matrices)

unfoldable pub of_matrices : {E Com : Type 0} → Com → List (MatrixClaim E) → CommitmentClaim E Com
of_matrices commitment matrices = record { commitment = commitment; matrices = matrices }

module _ {E Com Domain : Type 0} (log_size : Domain → ℕ) where
  pub claims_are : (claims : List (CommitmentOpening E Com Domain))
      → relation_claims log_size (map claimed.claim claims) ≡ view.claims_of log_size claims
  unfolding of_matrices
  claims_are [] = refl
  claims_are (c ∷ claims) =
      ap (λ matrices. of_matrices c.commitment matrices ∷ relation_claims log_size
      (map claimed.claim claims)) (matrices_are log_size c.matrices.items)
      ∙ ap (λ rest. of_matrices c.commitment (map (view.matrix_claim log_size) c.matrices.items) ∷
      rest) (claims_are claims)
