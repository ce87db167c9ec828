-- An opening of one column at one point: what is claimed, what is absorbed before, and acceptance.
use Rattle.std.specs.Prelude.{ℕ, List, [], ◌∷◌}
use Rattle.std.specs.declared.vec.Vec.{Vec}
use Rattle.p3_field.specs.baby_bear.BabyBear.{BabyBear}
use Rattle.p3_field.specs.baby_bear4.BabyBear4.{BabyBear4}
use Rattle.p3_field.specs.BabyBear4.{lift4}
use Rattle.p3_challenger.specs.Sha256.{start}
use Rattle.p3_pcs.specs.Claims as claimed
use Rattle.p3_fri_relation.specs.Setting.{Parameters, CommitmentClaim, Proof}
use Rattle.p3_fri_relation.specs.Acceptance.{Accepts}
use Rattle.fri_statement.specs.BabyBear.{coefficient_numbers, statement_absorbed}
use Rattle.fri_statement.specs.BabyBear.{sha256_setting}
use Rattle.fri_statement.specs.Statement.{Statement}

-- folds by two, two queries, and no proof of work
abbrev pub opening_parameters : (log_blowup log_final_poly_len : ℕ) → Parameters
opening_parameters log_blowup log_final_poly_len = record {
  log_blowup = log_blowup;
  log_final_poly_len = log_final_poly_len;
  max_log_arity = 1;
  num_queries = 2;
  batch_pow_bits = 0;
  commit_pow_bits = 0;
  query_pow_bits = 0;
}

-- of any scheme: under the commitment is one matrix of one column, on this domain, with this value
-- at this point
abbrev pub single_claim : {EF Com Domain : Type 0} → Com → Domain → (point value : EF)
    → claimed.Claim EF Com Domain
single_claim commitment domain point value = record {
  commitment = commitment;
  matrices = (record {
    domain = domain;
    points = (record { point = point; values = value ∷ [] }) ∷ [];
  }) ∷ [];
}

-- what is known of one column before it is opened
abbrev pub single_statement : Parameters → (commitment : List ℕ) (shift log_size : ℕ)
    → (point : BabyBear4) → Statement
single_statement parameters commitment shift log_size point = record {
  context = [];
  parameters = parameters;
  commitments = (record {
    digest = commitment;
    matrices = (record {
      shift = shift;
      log_size = log_size;
      width = 1;
      points = coefficient_numbers point ∷ [];
    }) ∷ [];
  }) ∷ [];
}

module _ {X Y : Type 0} (log_blowup log_final_poly_len log_size : ℕ) (commitment : List ℕ)
    (point value : BabyBear)
    (proof : Proof BabyBear BabyBear4 (List ℕ) (Vec (Vec (List ℕ) X) Y) (Vec (Vec (List ℕ) X) Y))
  where
    -- what is claimed: the column of `2^log_size` entries under the commitment has the value at the
    -- point
    abbrev pub column_claim : CommitmentClaim BabyBear4 (List ℕ)
    column_claim = record {
      commitment = commitment;
      matrices = (record {
        domain = log_size;
        points = (record { point = lift4 point; values = lift4 value ∷ [] }) ∷ [];
      }) ∷ [];
    }

    -- the scheme's relation holds of that claim, by the proof, from the state in which a fresh
    -- challenger has absorbed the statement
    pub record IsAcceptedOpening : Type 0 where
      pub holds : Accepts sha256_setting (opening_parameters log_blowup log_final_poly_len)
          (column_claim ∷ []) proof
          (statement_absorbed start (single_statement
          (opening_parameters log_blowup log_final_poly_len) commitment 1 log_size (lift4 point)))
