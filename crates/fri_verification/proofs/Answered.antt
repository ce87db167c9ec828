-- What is known of a scheme's verdict, said of the statement of records.
use Rattle.std.proofs.Common.{◌≡◌, ℕ, List, Option, map, sym, subst, ap, ◌∙◌}
use Rattle.p3_challenger_sha256.specs.declared.sha256_challenger.Sha256Challenger.{Sha256Challenger}
use Rattle.p3_pcs.specs.Claims.{Claim}
use Rattle.p3_pcs.specs.Scheme.{Scheme}
use Rattle.fri_records.specs.declared.records.Parameters.{Parameters}
use Rattle.fri_records.specs.declared.records.BatchClaims.{BatchClaims}
use Rattle.fri_statement.specs.Setting.{SchemeFields, prime_fields, sha256_moves}
use Rattle.fri_schemes.specs.Alike.{AcceptAlike}
use Rattle.fri_verification.specs.Bound.{state_bound}
use Rattle.fri_numbers.specs.Claims.{batch_numbers, batch_listed}
use Rattle.fri_numbers.specs.Numbers.{extension_numbers}
use Rattle.fri_verification.specs.Statements.{IsStatement}
use Rattle.fri_verification.specs.Verdicts.{IsAcceptedBy, IsRefusedBy}

module _ {F E : Type 0} (f : SchemeFields F E) {P Dom D Proof Error ProverError : Type 0}
    (rules : P → Scheme E (Sha256Challenger F) F Dom (List ℕ) D Proof Error ProverError)
    (shift_of : Dom → F) (log_size_of : Dom → ℕ) (IsScheme : P → Type 0) (begun : Sha256Challenger F)
    (context : List ℕ) (parameters : Parameters) (index : Option ℕ) (records : List BatchClaims) (proof : Proof)
    (made : P) (is_of : IsScheme made) (statement : IsStatement f context parameters records)
    (claims : List (Claim E (List ℕ) Dom))
    (listed : map (batch_numbers f shift_of log_size_of) claims ≡ map batch_listed records)
    (c : Sha256Challenger F) (begins : c ≡ state_bound f begun context parameters records) where
  pub accepted_by : (now : P) → AcceptAlike (rules made) (rules now) → (last : Sha256Challenger F) (next : List ℕ)
      → (rules now).Accepts index c claims proof → last ≡ (rules now).last_state index c claims proof
      → next ≡ extension_numbers f ((sha256_moves (prime_fields f)).draw_element last).value
      → IsAcceptedBy f rules shift_of log_size_of IsScheme begun context parameters index records proof next
  accepted_by now alike last next holds ends drawn = record {
    stated = record { statement = statement; scheme = made; is_of = is_of; claims = claims; listed = listed };
    holds = alike.accepts index (state_bound f begun context parameters records) claims proof
        (subst (λ d. (rules now).Accepts index d claims proof) begins holds);
    drawn = drawn ∙ ap (λ d. extension_numbers f ((sha256_moves (prime_fields f)).draw_element d).value)
        (ends ∙ ap (λ d. (rules now).last_state index d claims proof) begins
        ∙ alike.states index (state_bound f begun context parameters records) claims proof);
  }

  pub refused_by : (e : Error) → (¬ (rules made).Accepts index c claims proof)
      × (rules made).IsTrueRefusal index claims proof c e
      → IsRefusedBy f rules shift_of log_size_of IsScheme begun context parameters index records proof e
  refused_by e h = record {
    stated = record { statement = statement; scheme = made; is_of = is_of; claims = claims; listed = listed };
    fails = λ holds. h.0 (subst (λ d. (rules made).Accepts index d claims proof) (sym begins) holds);
    fault = subst (λ d. (rules made).IsTrueRefusal index claims proof d e) begins h.1;
  }
