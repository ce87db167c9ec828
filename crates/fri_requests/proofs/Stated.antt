-- What holds of a scheme's parameters, claims and state holds of the records that they were read of.
use Rattle.std.proofs.Common.{◌≡◌, ℕ, List, sym, subst, ap, ◌∙◌}
use Rattle.std.specs.declared.vec.Vec.{Vec}
use Rattle.p3_mmcs.specs.declared.sha256_mmcs.error.Sha256MmcsError.{Sha256MmcsError}
use Rattle.p3_challenger_sha256.specs.declared.sha256_challenger.Sha256Challenger.{Sha256Challenger}
use Rattle.p3_challenger_sha256.specs.Sha256.{start}
use Rattle.p3_fri_relation.specs.Setting.{Proof, CommitmentClaim}
use Rattle.p3_fri_relation.specs.Setting as setting
use Rattle.p3_fri_relation.specs.Acceptance.{Accepts}
use Rattle.p3_fri_relation.specs.Faults.{StandsInScheme}
use Rattle.p3_fri_relation.specs.declared.error.FriError.{FriError}
use Rattle.p3_fri_two_adic.specs.Ends.{last_state}
use Rattle.fri_records.specs.declared.records.Parameters.{Parameters}
use Rattle.fri_records.specs.declared.records.BatchClaims.{BatchClaims}
use Rattle.fri_verification.specs.Bound.{state_bound}
use Rattle.fri_records.specs.Records.{parameters_in}
use Rattle.fri_statement.specs.Setting.{SchemeFields, prime_fields, sha256_moves, sha256_setting}
use Rattle.fri_numbers.specs.Numbers.{extension_numbers}
use Rattle.fri_verification.specs.Statements.{IsStatement}
use Rattle.fri_numbers.specs.Claimed.{claims_listed}
use Rattle.fri_requests.specs.Accepted.{IsAccepted, IsRefused}

module _ {F E X Y : Type 0} (f : SchemeFields F E) (context : List ℕ) (parameters : Parameters) (records : List BatchClaims)
    (proof : Proof F E (List ℕ) (Vec (Vec (List ℕ) X) Y) (Vec (Vec (List ℕ) X) Y))
    (p : setting.Parameters) (claims : List (CommitmentClaim E (List ℕ)))
    (c : Sha256Challenger F) (same : p ≡ parameters_in parameters)
    (listed : claims ≡ claims_listed f records) (begins : c ≡ state_bound f start context parameters records)
    (statement : IsStatement f context parameters records) where
  -- where the statement is absorbed
  abbrev at_start : Sha256Challenger F
  at_start = state_bound f start context parameters records

  abbrev At : Type 1
  At = setting.Parameters → List (CommitmentClaim E (List ℕ)) → Sha256Challenger F → Type 0

  moved : (P : At) → P p claims c → P (parameters_in parameters) (claims_listed f records) at_start
  moved P h =
      subst (λ d. P (parameters_in parameters) (claims_listed f records) d) begins
      (subst (λ cs. P (parameters_in parameters) cs c) listed (subst (λ q. P q claims c) same h))

  moved_back : (P : At) → P (parameters_in parameters) (claims_listed f records) at_start → P p claims c
  moved_back P h =
      subst (λ q. P q claims c) (sym same)
      (subst (λ cs. P (parameters_in parameters) cs c) (sym listed)
      (subst (λ d. P (parameters_in parameters) (claims_listed f records) d) (sym begins) h))

  pub accepted : (last : Sha256Challenger F) (next : List ℕ)
      → Accepts (sha256_setting f) p claims proof c
      → last ≡ last_state (sha256_setting f) p claims proof c
      → next ≡ extension_numbers f ((sha256_moves (prime_fields f)).draw_element last).value
      → IsAccepted f context parameters records proof next
  accepted last next holds ends drawn = record {
    statement = statement;
    holds = moved (λ q cs d. Accepts (sha256_setting f) q cs proof d) holds;
    drawn = drawn ∙ ap (λ d. extension_numbers f ((sha256_moves (prime_fields f)).draw_element d).value)
        (moved (λ q cs d. last ≡ last_state (sha256_setting f) q cs proof d) ends);
  }

  pub refused : (e : FriError Sha256MmcsError Sha256MmcsError)
      → (¬ Accepts (sha256_setting f) p claims proof c)
      × StandsInScheme (sha256_setting f) p claims proof c e → IsRefused f context parameters records proof e
  refused e h = record {
    statement = statement;
    fails = λ holds. h.0 (moved_back (λ q cs d. Accepts (sha256_setting f) q cs proof d) holds);
    fault = moved (λ q cs d. StandsInScheme (sha256_setting f) q cs proof d e) h.1;
  }
