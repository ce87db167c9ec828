-- What comes of opening batches of matrices that a prover of the plain scheme keeps.
use Rattle.std.specs.Prelude.{◌≡◌, ℕ, List, Ok, map}
use Rattle.std.specs.List.{AllZip}
use Rattle.std.specs.declared.vec.Vec.{Vec}
use Rattle.p3_fri_relation.specs.Setting.{Proof}
use Rattle.fri_records.specs.declared.records.Batch.{Batch}
use Rattle.fri_records.specs.declared.records.BatchClaims.{BatchClaims}
use Rattle.fri_records.specs.declared.records.Parameters.{Parameters}
use Rattle.fri_statement.specs.Setting.{SchemeFields}
use Rattle.fri_requests.specs.Accepted.{IsAccepted}
use Rattle.fri_numbers.specs.Claims.{batch_listed}
use Rattle.fri_prover.specs.Keeping.{CanAsk, batches_at}
use Rattle.fri_requests.specs.Opened.{IsOpened}

module _ {F E X Y : Type 0} (f : SchemeFields F E) where
  -- batches under these roots are opened as records ask for them under a context: what is
  -- claimed are the values of their columns' polynomials at the points that are asked, and it is
  -- accepted
  pub record OpensAsked (parameters : Parameters) (roots : List (List ℕ))
      (batches : List Batch) (context : List ℕ) (asked : List Batch) (claims : List BatchClaims)
      (proof : Proof F E (List ℕ) (Vec (Vec (List ℕ) X) Y) (Vec (Vec (List ℕ) X) Y))
      (next_challenge : List ℕ) : Type 0 where
    pub asks : CanAsk f batches context asked
    pub opened : AllZip (IsOpened f parameters.log_blowup) (map batch_listed claims)
        (batches_at batches asked)
    pub commitments :
        map (λ b. b.commitment) (map batch_listed claims) ≡ map (λ k. Ok k) roots
    pub accepted : IsAccepted f context parameters claims proof next_challenge
