-- Of a domain the relation reads the logarithm of its size alone.
use Rattle.std.proofs.Common.{◌≡◌, ◌^◌, ℕ, List, [], ◌∷◌, map, refl, sym, ap}
use Rattle.std.proofs.Common.{ap₂, ◌∙◌}
use Rattle.p3_pcs.specs.Claims.{PointClaim, zip_with, claim_on}
use Rattle.p3_pcs.specs.Requests.{Held, Request, honest_values, honest_claims, FitDomains}
use Rattle.p3_fri_openings.specs.SchemeClaims.{matrix_claim, relation_claims}
use Rattle.p3_fri_completeness.proofs.SeenClaims.{of_matrices}

module _ {E Domain : Type 0} (log_size : Domain → ℕ) where
  matrices_sized : (domains : List Domain) (points : List (List (PointClaim E)))
      → map (matrix_claim log_size) (zip_with claim_on domains points)
      ≡ map (matrix_claim (λ k. k)) (zip_with claim_on (map log_size domains) points)
  matrices_sized [] points = refl
  matrices_sized (d ∷ domains) [] = refl
  matrices_sized (d ∷ domains) (zs ∷ points) =
      ap (λ rest. record { domain = log_size d; points = zs } ∷ rest)
      (matrices_sized domains points)

module _ {Domain : Type 0} (log_size : Domain → ℕ) where
  sizes_are : (domains : List Domain) → map (λ k. 2 ^ k) (map log_size domains) ≡ map
      (λ d. 2 ^ log_size d) domains
  sizes_are [] = refl
  sizes_are (d ∷ domains) = ap (λ rest. 2 ^ log_size d ∷ rest) (sizes_are domains)

  all_sizes : (domains : List (List Domain))
      → map (map (λ k. 2 ^ k)) (map (map log_size) domains) ≡ map (map
      (λ d. 2 ^ log_size d)) domains
  all_sizes [] = refl
  all_sizes (ds ∷ domains) = ap₂ (λ first rest. first ∷ rest) (sizes_are ds) (all_sizes domains)

module _ {D E Com Domain : Type 0} (held : D → List (Held E)) (commitment_of : D
    → Com) (log_size : Domain → ℕ) where
  pub claims_sized : (domains : List (List Domain)) (requests : List (Request D E))
      → relation_claims (λ k. k) (honest_claims held commitment_of (map
      (map log_size) domains) requests)
      ≡ relation_claims log_size (honest_claims held commitment_of domains requests)
  unfolding of_matrices
  claims_sized [] requests = refl
  claims_sized (ds ∷ domains) [] = refl
  claims_sized (ds ∷ domains) (r ∷ requests) =
      ap₂ (λ matrices rest. of_matrices (commitment_of r.datum) matrices ∷ rest)
      (sym (matrices_sized log_size ds (zip_with (λ zs vs. zip_with
      (λ z v. record { point = z; values = v }) zs vs) r.points (honest_values held r))))
      (claims_sized domains requests)

  pub domains_sized : (domains : List (List Domain)) (requests : List (Request D E))
      → FitDomains held (λ d. 2 ^ log_size d) domains requests
      → FitDomains held (λ k. 2 ^ k) (map (map log_size) domains) requests
  domains_sized domains requests fits = all_sizes log_size domains ∙ fits
