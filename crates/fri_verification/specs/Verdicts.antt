-- Which statements are accepted, over any scheme that is made of parameters.
use Rattle.std.specs.Prelude.{◌≡◌, ℕ, List, Option, map}
use Rattle.p3_challenger_sha256.specs.declared.sha256_challenger.Sha256Challenger.{Sha256Challenger}
use Rattle.p3_pcs.specs.Claims.{Claim}
use Rattle.p3_pcs.specs.Scheme.{Scheme}
use Rattle.p3_fri_relation.specs.Setting as setting
use Rattle.fri_records.specs.declared.records.Parameters.{Parameters}
use Rattle.fri_records.specs.declared.records.BatchClaims.{BatchClaims}
use Rattle.fri_records.specs.Records.{parameters_in}
use Rattle.fri_statement.specs.Setting.{SchemeFields, prime_fields, sha256_moves}
use Rattle.fri_verification.specs.Bound.{state_bound}
use Rattle.fri_numbers.specs.Claims.{batch_numbers, batch_listed}
use Rattle.fri_numbers.specs.Numbers.{extension_numbers}
use Rattle.fri_verification.specs.Statements.{IsStatement}

-- a scheme is made of a record's parameters, of so many random columns and of this seed
module _ {P : Type 0} (IsMade : setting.Parameters → ℕ → List ℕ → P → Type 0)
    (parameters : Parameters) (num_random_codewords : ℕ) where
  abbrev pub IsMadeWith : (seed : List ℕ) → P → Type 0
  IsMadeWith seed scheme = IsMade (parameters_in parameters) num_random_codewords seed scheme

  -- of some seed
  abbrev pub IsMadeFor : P → Type 0
  IsMadeFor scheme = (seed : List ℕ) × IsMadeWith seed scheme

-- a scheme that comes of one that was made so, where what that one knew is kept
pub record IsSchemeOf {P : Type 0} (IsMade : P → Type 0) (Keeps : P → P → Type 0) (scheme : P)
    : Type 0 where
  pub made : P
  pub is_made : IsMade made
  pub kept : Keeps made scheme

module _ {F E : Type 0} (f : SchemeFields F E) {P Dom D Proof Error ProverError : Type 0}
    (rules : P → Scheme E (Sha256Challenger F) F Dom (List ℕ) D Proof Error ProverError)
    (shift_of : Dom → F) (log_size_of : Dom → ℕ) (IsScheme : P → Type 0) where
  -- of a context, as a hex text, from the state in which the challenger begins, where the index
  -- names the claims of preprocessing
  module _ (begun : Sha256Challenger F) (context : List ℕ) (parameters : Parameters)
      (index : Option ℕ) (records : List BatchClaims) (proof : Proof) where
    -- the state in which the challenger has absorbed the statement
    abbrev pub begins : Sha256Challenger F
    begins = state_bound f begun context parameters records

    -- such a scheme, and the claims that the records list
    pub record IsStated : Type 0 where
      pub statement : IsStatement f context parameters records
      pub scheme : P
      pub is_of : IsScheme scheme
      pub claims : List (Claim E (List ℕ) Dom)
      pub listed : map (batch_numbers f shift_of log_size_of) claims ≡ map batch_listed records

    -- the scheme accepts the claims by the proof, and this is drawn next
    pub record IsAcceptedBy (next : List ℕ) : Type 0 where
      pub stated : IsStated
      pub holds : (rules stated.scheme).Accepts index begins stated.claims proof
      pub drawn : next ≡ extension_numbers f ((sha256_moves (prime_fields f)).draw_element
          ((rules stated.scheme).last_state index begins stated.claims proof)).value

    -- it doesn't, and this is a fault that they have
    pub record IsRefusedBy (e : Error) : Type 0 where
      pub stated : IsStated
      pub fails : ¬ (rules stated.scheme).Accepts index begins stated.claims proof
      pub fault : (rules stated.scheme).IsTrueRefusal index stated.claims proof begins e
