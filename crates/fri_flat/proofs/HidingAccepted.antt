-- What is verified in the scheme that hides is what the statement says.
use Rattle.std.proofs.Common.{◌≡◌, ℕ, List, Result, Ok, Err, subst}
use Rattle.std.specs.Prelude.{IfOk, string_bytes}
use Rattle.std.specs.Global.{Global}
use Rattle.std.specs.declared.vec.Vec.{Vec}
use Rattle.p3_challenger_sha256.specs.declared.sha256_challenger.Sha256Challenger.{Sha256Challenger}
use Rattle.p3_challenger_sha256.specs.Sha256.{start}
use Rattle.p3_pcs.specs.Scheme.{Scheme}
use Rattle.p3_fri_plain.specs.Numbers.{HidingSeen, hiding_numbers}
use Rattle.p3_fri_plain.specs.Views.{hiding_listed}
use Rattle.fri_statement.specs.Hiding.{hiding_absorbed}
use Rattle.fri_statement.specs.Setting.{SchemeFields}
use Rattle.fri_records.specs.declared.records.BatchClaims.{BatchClaims}
use Rattle.fri_records.specs.declared.fault.VerifyError.{VerifyError}
use Rattle.fri_verification.specs.Verdicts.{IsAcceptedBy}
use Rattle.fri_flat.specs.declared.hiding_forms.HidingStatement.{HidingStatement}
use Rattle.fri_flat.specs.HidingAnswers.{IsAcceptedHiding}

module _ {F E : Type 0} (f : SchemeFields F E) {P Dom D Proof Error ProverError : Type 0}
    (rules : P → Scheme E (Sha256Challenger F) F Dom (List ℕ) D Proof Error ProverError)
    (shift_of : Dom → F) (log_size_of : Dom → ℕ) (seen : Proof → HidingSeen F E)
    (IsScheme : P → Type 0) (s : HidingStatement) where
  -- a scheme accepts records under a context from where the statement begins
  abbrev Accepts : (said : List ℕ) → List BatchClaims → Proof → (next : List ℕ) → Type 0
  Accepts said read proof next = IsAcceptedBy f rules shift_of log_size_of IsScheme
      (hiding_absorbed f.order f.canonical f.relation.base start s.num_random_codewords
      s.preprocessed) said s.parameters s.preprocessed read proof next

  pub accepted : (said : List ℕ) (read : List BatchClaims) (proof : Proof)
      (verified : Result (Vec ℕ Global) VerifyError) → said ≡ string_bytes s.context
      → read ≡ s.claims.items
      → hiding_numbers f.canonical f.relation.coefficients (seen proof) ≡ hiding_listed s.proof
      → IfOk verified (λ next. Accepts said read proof next.items)
      → IfOk verified (λ next.
      IsAcceptedHiding f rules shift_of log_size_of seen IsScheme s next.items)
  accepted said read proof (Ok next) is_text same listed holds = record {
    proof = proof;
    numbers = listed;
    accepted = subst (λ text. Accepts text s.claims.items proof next.items) is_text
        (subst (λ claims. Accepts said claims proof next.items) same holds);
  }
  accepted said read proof (Err e) is_text same listed holds = tt
