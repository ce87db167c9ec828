-- Claims on domains, of which the relation reads the logarithms of their sizes alone.
use Rattle.std.proofs.Common.{◌^◌, ℕ, List, map, subst}
use Rattle.p3_pcs.specs.Requests.{Held, Request, honest_claims, FitDomains}
use Rattle.p3_fri_relation.specs.Setting.{CommitmentClaim}
use Rattle.p3_fri_openings.specs.SchemeClaims.{relation_claims}
use Rattle.p3_fri_hiding_openings.proofs.Sizes.{claims_sized, domains_sized}

module _ {D E Com Domain : Type 0} (held : D → List (Held E)) (commitment_of : D → Com)
    (log_size : Domain → ℕ) (requests : List (Request D E)) (P : List (CommitmentClaim E Com) → Type 0)
  where
    -- what holds of the honest claims on all sizes that fit holds of those on domains that do
    pub on_domains :
        ((sizes : List (List ℕ)) → FitDomains held (λ k. 2 ^ k) sizes requests
        → P (relation_claims (λ k. k) (honest_claims held commitment_of sizes requests)))
        → (domains : List (List Domain)) → FitDomains held (λ d. 2 ^ log_size d) domains requests
        → P (relation_claims log_size (honest_claims held commitment_of domains requests))
    on_domains on_sizes domains fits =
        subst P (claims_sized held commitment_of log_size domains requests)
        (on_sizes (map (map log_size) domains)
        (domains_sized held commitment_of log_size domains requests fits))
