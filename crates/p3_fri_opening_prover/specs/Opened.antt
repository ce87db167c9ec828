-- What an opening of requests returns.
use Rattle.std.specs.Prelude.{◌≡◌, ◌^◌, ℕ, List, map}
use Rattle.p3_pcs.specs.Requests.{Request, AreHonest, FitDomains, honest_values, honest_claims}
use Rattle.p3_fri_relation.specs.Setting.{CommitmentClaim, Proof}
use Rattle.p3_fri_relation.specs.Acceptance.{Accepts, batch_replayed, test_replay}
use Rattle.p3_fri_openings.specs.SchemeClaims.{relation_claims}
use Rattle.p3_fri_opening_prover.specs.Setting.{OpeningSetting, IsHonest, held}

module _ {F E C D Data Com Path InCom InPath : Type 0}
    (r : OpeningSetting F E C D Data Com Path InCom InPath) (requests : List (Request D E)) where
  -- the honest claims of requests on domains of these log sizes
  abbrev pub claims_asked : List (List ℕ) → List (CommitmentClaim E InCom)
  claims_asked log_sizes =
      relation_claims (λ n. n) (honest_claims (held r) r.commitment_of log_sizes requests)

  -- the values are those of the committed polynomials; and if the data is honest and each matrix
  -- has a point, then on all domains that fit, the proof is accepted of the honest claims from the
  -- challenger's state `c` on, and a verifier is left in the prover's last state
  pub record IsOpened (c last : C) (values : List (List (List (List E))))
      (proof : Proof F E Com Path InPath) : Type 0 where
    pub honest : values ≡ map (honest_values (held r)) requests
    pub accepted : AreHonest (IsHonest r) requests → (log_sizes : List (List ℕ))
        → FitDomains (held r) (λ n. 2 ^ n) log_sizes requests
        → Accepts r.setting r.parameters (claims_asked log_sizes) proof c
    pub state : AreHonest (IsHonest r) requests → (log_sizes : List (List ℕ))
        → FitDomains (held r) (λ n. 2 ^ n) log_sizes requests
        → last ≡ (test_replay r.setting r.parameters (claims_asked log_sizes) proof
        (batch_replayed r.setting r.parameters (claims_asked log_sizes) proof c).state).state
