-- The state that is bound to a request.
use Rattle.std.proofs.Common.{◌≡◌, ℕ, List, []}
use Rattle.std.proofs.Common.{sym, ap, ap₂, ◌∙◌, Ok, Bool}
use Rattle.std.specs.Prelude.{string_bytes}
use Rattle.std.specs.Result.{result_unwrap_or}
use Rattle.hex.specs.Hex.{decode_of}
use Rattle.p3_pcs.specs.Claims.{zip_with}
use Rattle.fri_statement.specs.Setting.{SchemeFields}
use Rattle.fri_statement.specs.Statement.{OpenedCommitment}
use Rattle.p3_challenger_sha256.specs.declared.sha256_challenger.Sha256Challenger.{Sha256Challenger}
use Rattle.fri_records.specs.declared.records.Request.{Request}
use Rattle.fri_records.specs.Records.{parameters_in}
use Rattle.fri_verification.specs.Bound.{bound, batch_asked}
use Rattle.fri_opening.specs.Prepared.{state_asked}

module _ {F E : Type 0} (f : SchemeFields F E) where
  -- the state that is bound to a request, once its batches have these commitments
  pub request_state : (hides : Bool) (begun fresh : Sha256Challenger F) (r : Request)
      (bytes : List ℕ) (opened : List OpenedCommitment) (known kept : List (List ℕ))
      (c : Sha256Challenger F) → c ≡ bound f fresh bytes (parameters_in r.parameters) opened
      → fresh ≡ begun → decode_of (string_bytes r.context) ≡ Ok bytes
      → opened ≡ zip_with (batch_asked hides) known r.commitments.items → known ≡ kept
      → c ≡ state_asked f hides begun r kept
  request_state hides begun fresh r bytes opened known kept c is begins decoded asked same =
      is ∙ ap (λ b. bound f b bytes (parameters_in r.parameters) opened) begins
      ∙ ap₂ (λ bs os. bound f begun bs (parameters_in r.parameters) os)
      (sym (ap (λ d. result_unwrap_or d []) decoded))
      (asked ∙ ap (λ ks. zip_with (batch_asked hides) ks r.commitments.items) same)
