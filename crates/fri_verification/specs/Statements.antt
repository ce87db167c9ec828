-- Which records make a statement.
use Rattle.std.specs.Prelude.{ℕ, List}
use Rattle.p3_fri_two_adic.specs.Ranges.{InVerifierRange}
use Rattle.fri_records.specs.declared.records.Parameters.{Parameters}
use Rattle.fri_records.specs.declared.records.BatchClaims.{BatchClaims}
use Rattle.fri_records.specs.Records.{parameters_in}
use Rattle.fri_statement.specs.Setting.{SchemeFields}
use Rattle.fri_numbers.specs.Claimed.{AreClaims}
use Rattle.fri_verification.specs.Bound.{IsContext}

module _ {F E : Type 0} (f : SchemeFields F E) where
  -- the context is bytes, the parameters are in the verifier's range, and the records are those of
  -- claims
  pub record IsStatement (context : List ℕ) (parameters : Parameters) (records : List BatchClaims)
      : Type 0 where
    pub bytes : IsContext context
    pub range : InVerifierRange (parameters_in parameters) f.relation.two_adicity 63
    pub claims : AreClaims f records
