-- What is known of a proof that is accepted over a scheme made of parameters, and why there is none
-- or why one isn't accepted.
use Rattle.std.specs.Prelude.{◌≢◌, ◌≡◌, ⊤, ℕ}
use Rattle.fri_records.specs.Records.{parameters_in, AreProvers}
use Rattle.fri_records.specs.declared.records.Parameters.{Parameters}
use Rattle.p3_fri_plain.specs.declared.error.PlainProofError.{PlainProofError}
use Rattle.p3_fri_plain.specs.declared.error.PlainProofError.TheVariants as form
use Rattle.p3_fri_relation.specs.declared.error.FriError.{FriError}
use Rattle.p3_fri_two_adic.specs.Ranges.{InVerifierRange}
use Rattle.p3_mmcs.specs.declared.sha256_mmcs.error.Sha256MmcsError.{Sha256MmcsError}
use Rattle.p3_pcs.specs.Scheme.{AreKept}
use Rattle.p3_stark_pcs.specs.Scheme.{StarkScheme}
use Rattle.p3_uni_stark_system.specs.Systems.{SystemNumbers, IsAcceptedSystem, IsRefusedSystem}
use Rattle.p3_uni_stark_system.specs.declared.error.SystemProvingError.{SystemProvingError}
use Rattle.p3_uni_stark_system.specs.declared.error.SystemVerificationError.{
  SystemVerificationError,
}
use Rattle.p3_uni_stark_verifier.specs.declared.proof.Proof.{Proof}
use Rattle.p3_uni_stark_verifier.specs.Setting.{StarkSetting}
use Rattle.fri_stark_json.specs.declared.failure.Failure.{Failure}
use Rattle.fri_stark_json.specs.declared.failure.Failure.TheVariants as failure

-- why a verifier refuses
abbrev pub VerifierError : Type 0
VerifierError = FriError Sha256MmcsError Sha256MmcsError

module _ {P V E C Com Dom D Opening Error ProverError : Type 0} (canonical : V → ℕ)
    (setting : P → StarkSetting V E C Com Dom D Opening Error ProverError) (IsMade : P → Type 0)
  where
    -- a scheme that comes of one that was made so, where what that one knew is kept
    pub record IsSchemeOf (scheme : P) : Type 0 where
      pub made : P
      pub is_made : IsMade made
      pub kept : AreKept (StarkSetting.scheme (setting made)) (StarkSetting.scheme (setting scheme))

    module _ (IsForm : Proof E Com Opening → Type 0) (n : SystemNumbers) (c : C) where
      -- over such a scheme a proof of this form, of a trace of `2^k` rows, is accepted of the
      -- system with these numbers, from the state `c`
      pub record IsAccepted (k : ℕ) : Type 0 where
        pub scheme : P
        pub is_of : IsSchemeOf scheme
        pub proof : Proof E Com Opening
        pub is_form : IsForm proof
        pub height : proof.log_height ≡ k
        pub last : C
        pub accepted : IsAcceptedSystem canonical (setting scheme) n proof c last

      module _ (stark_rules : P → StarkScheme E V Dom D ProverError) (order log_blowup : ℕ) where
        -- over such a scheme a proof of this form is refused for this reason
        pub record IsRefused (e : SystemVerificationError ProverError Error) : Type 0 where
          pub scheme : P
          pub is_of : IsSchemeOf scheme
          pub proof : Proof E Com Opening
          pub is_form : IsForm proof
          pub last : C
          pub refused : IsRefusedSystem order log_blowup canonical (setting scheme)
              (stark_rules is_of.made) n proof c last e

-- a scheme that was made so is left in some state, and this holds of both
pub record IsRefusedOver {P : Type 0} (IsMade : P → Type 0) (Holds : (made after : P) → Type 0)
    : Type 0 where
  pub made : P
  pub is_made : IsMade made
  pub after : P
  pub holds : Holds made after

module _ {P ProverError : Type 0} (IsMade : P → Type 0) where
  -- why there is no proof, where this is why a scheme's prover refuses
  abbrev pub NoProof : (Refuses : (made after : P) → SystemProvingError ProverError → Type 0)
      → Parameters → Failure ProverError → Type 0
  NoProof Refuses p (failure.Parameters misfit) =
      ¬ (AreProvers 27 p × InVerifierRange (parameters_in p) 27 63)
  NoProof Refuses p (failure.Proving e) =
      IsRefusedOver IsMade (λ made after. Refuses made after e)
  NoProof Refuses p failure.OutOfMemory = ⊤
  NoProof Refuses p _ = ⊥

module _ {ProverError : Type 0} where
  -- why a form isn't accepted, where these are its faults, and this is why a proof of it is refused
  abbrev pub NotAccepted : (HasFault : PlainProofError → Type 0)
      → (Refuses : SystemVerificationError ProverError VerifierError → Type 0) → Parameters
      → Failure ProverError → Type 0
  NotAccepted HasFault Refuses p (failure.Form e) = e ≢ form.OutOfMemory → HasFault e
  NotAccepted HasFault Refuses p (failure.Parameters misfit) =
      ¬ InVerifierRange (parameters_in p) 27 63
  NotAccepted HasFault Refuses p (failure.Verification e) = Refuses e
  NotAccepted HasFault Refuses p _ = ⊥

  -- a text wasn't read or written, of which no reason is known
  abbrev pub IsOfText : Failure ProverError → Type 0
  IsOfText (failure.Json e) = ⊤
  IsOfText _ = ⊥
