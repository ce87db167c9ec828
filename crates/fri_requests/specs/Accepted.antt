-- Which statements the plain scheme accepts, and what is drawn after them.
use Rattle.std.specs.Prelude.{◌≡◌, ℕ, List}
use Rattle.std.specs.declared.vec.Vec.{Vec}
use Rattle.p3_mmcs.specs.declared.sha256_mmcs.error.Sha256MmcsError.{Sha256MmcsError}
use Rattle.p3_challenger_sha256.specs.declared.sha256_challenger.Sha256Challenger.{Sha256Challenger}
use Rattle.p3_challenger_sha256.specs.Sha256.{start}
use Rattle.p3_fri_relation.specs.Setting.{Proof}
use Rattle.p3_fri_relation.specs.Acceptance.{Accepts}
use Rattle.p3_fri_relation.specs.Faults.{StandsInScheme}
use Rattle.p3_fri_relation.specs.declared.error.FriError.{FriError}
use Rattle.p3_fri_two_adic.specs.Ends.{last_state}
use Rattle.fri_records.specs.declared.records.Parameters.{Parameters}
use Rattle.fri_records.specs.declared.records.BatchClaims.{BatchClaims}
use Rattle.fri_records.specs.Records.{parameters_in}
use Rattle.fri_statement.specs.Setting.{SchemeFields, prime_fields, sha256_moves, sha256_setting}
use Rattle.fri_verification.specs.Bound.{state_bound}
use Rattle.fri_numbers.specs.Numbers.{extension_numbers}
use Rattle.fri_verification.specs.Statements.{IsStatement}
use Rattle.fri_numbers.specs.Claimed.{claims_listed}

-- over these fields, of a context, as a hex text
module _ {F E X Y : Type 0} (f : SchemeFields F E) (context : List ℕ) (parameters : Parameters)
    (records : List BatchClaims)
    (proof : Proof F E (List ℕ) (Vec (Vec (List ℕ) X) Y) (Vec (Vec (List ℕ) X) Y)) where
  -- the state in which a fresh challenger has absorbed the statement
  abbrev pub begins : Sha256Challenger F
  begins = state_bound f start context parameters records

  -- the scheme's relation holds of the claims that the records list, from that state
  abbrev pub Holds : Type 0
  Holds =
      Accepts (sha256_setting f) (parameters_in parameters) (claims_listed f records) proof begins

  -- the element of the extension that is drawn after the proof, by its coefficients' numbers
  abbrev pub drawn_next : List ℕ
  drawn_next = extension_numbers f ((sha256_moves (prime_fields f)).draw_element
      (last_state (sha256_setting f) (parameters_in parameters) (claims_listed f records) proof
      begins)).value

  -- a statement that is accepted, and what is drawn next
  pub record IsAccepted (next : List ℕ) : Type 0 where
    pub statement : IsStatement f context parameters records
    pub holds : Holds
    pub drawn : next ≡ drawn_next

  -- a statement that isn't, and a fault that it has
  pub record IsRefused (e : FriError Sha256MmcsError Sha256MmcsError) : Type 0 where
    pub statement : IsStatement f context parameters records
    pub fails : ¬ Holds
    pub fault : StandsInScheme (sha256_setting f) (parameters_in parameters)
        (claims_listed f records) proof begins e
