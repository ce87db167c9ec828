-- What prover and verifier of a system return, by the names that a text's system has.
use Rattle.std.proofs.Common.{◌≡◌, ℕ, Bool, List, ap, subst}
use Rattle.algebra.specs.Field.{FieldOps}
use Rattle.p3_air.specs.declared.air.Air.{Air}
use Rattle.p3_air.specs.Satisfied.{Assigned}
use Rattle.p3_air_plain.specs.Checked.{IsSatisfiedIn}
use Rattle.p3_air_plain.specs.declared.forms.PlainAir.{PlainAir}
use Rattle.p3_baby_bear.specs.declared.baby_bear4.BabyBear4.{BabyBear4}
use Rattle.p3_fri_plain.specs.Numbers.{Digest}
use Rattle.p3_stark_pcs.specs.Scheme.{StarkScheme}
use Rattle.p3_pcs.specs.Scheme.{AreKept}
use Rattle.p3_uni_stark_plain.specs.Proofs.{StarkParts, stark_seen, stark_numbers, stark_listed}
use Rattle.p3_uni_stark_plain.specs.declared.forms.PlainStarkProof.{PlainStarkProof}
use Rattle.p3_uni_stark_system.specs.Systems.{SystemNumbers, with_trace, IsAcceptedSystem}
use Rattle.p3_uni_stark_phases.specs.declared.error.ProvingError.{ProvingError}
use Rattle.p3_uni_stark_system.specs.Proved.{ProvingFault}
use Rattle.p3_uni_stark_system.specs.Systems.{IsRefusedSystem}
use Rattle.p3_uni_stark_system.specs.declared.error.SystemProvingError.{SystemProvingError}
use Rattle.p3_uni_stark_system.specs.declared.error.SystemVerificationError.{
  SystemVerificationError,
}
use Rattle.p3_uni_stark_verifier.specs.declared.proof.Proof.{Proof}
use Rattle.p3_uni_stark_verifier.specs.Setting.{StarkSetting}
use Rattle.fri_stark_json.specs.Verdicts.{IsAccepted, IsRefused}

module _ {P V E C Com Dom D Opening Error ProverError : Type 0} (canonical : V → ℕ)
    (setting : P → StarkSetting V E C Com Dom D Opening Error ProverError) (IsMade : P → Type 0)
    (IsForm : Proof E Com Opening → Type 0) (m n : SystemNumbers) (b c : C) (made scheme : P)
    (is_made : IsMade made)
    (kept : AreKept (StarkSetting.scheme (setting made)) (StarkSetting.scheme (setting scheme)))
    (proof : Proof E Com Opening) (form : IsForm proof) (last : C) (numbers : m ≡ n) (begun : b ≡ c)
  where
    pub accepted_named : (k : ℕ) → proof.log_height ≡ k
        → IsAcceptedSystem canonical (setting scheme) m proof b last
        → IsAccepted canonical setting IsMade IsForm n c k
    accepted_named k height accepted = record {
      scheme = scheme;
      is_of = record { made = made; is_made = is_made; kept = kept };
      proof = proof;
      is_form = form;
      height = height;
      last = last;
      accepted = subst (λ x. IsAcceptedSystem canonical (setting scheme) n proof x last) begun
          (subst (λ x. IsAcceptedSystem canonical (setting scheme) x proof b last) numbers accepted);
    }

    pub refused_named : (stark_rules : P → StarkScheme E V Dom D ProverError)
        (order blowup log_blowup : ℕ) → blowup ≡ log_blowup
        → (e : SystemVerificationError ProverError Error)
        → IsRefusedSystem order blowup canonical (setting scheme) (stark_rules made) m proof b last e
        → IsRefused canonical setting IsMade IsForm n c stark_rules order log_blowup e
    refused_named stark_rules order blowup log_blowup same e refused = record {
      scheme = scheme;
      is_of = record { made = made; is_made = is_made; kept = kept };
      proof = proof;
      is_form = form;
      last = last;
      refused = subst (λ x. IsRefusedSystem order x canonical (setting scheme) (stark_rules made) n
          proof c last e) same
          (subst (λ x. IsRefusedSystem order blowup canonical (setting scheme) (stark_rules made) n
          proof x last e) begun
          (subst (λ x. IsRefusedSystem order blowup canonical (setting scheme) (stark_rules made) x
          proof b last e) numbers refused));
    }

module _ {V E Dom D ProverError : Type 0} (t : StarkScheme E V Dom D ProverError) (zk : Bool)
    (IsSubgroup : ℕ → Dom → Type 0) (K : FieldOps V) (two_adicity order : ℕ) (canonical : V → ℕ)
    (Unproved : Air V → Assigned V → ProvingError ProverError → Type 0)
    (e : SystemProvingError ProverError) where
  -- of a scheme of this blowup, of numbers
  abbrev Fault : ℕ → PlainAir → Assigned ℕ → Type 0
  Fault blowup air numbers = ProvingFault t zk IsSubgroup K two_adicity blowup order canonical
      Unproved air numbers e

  pub unproved_named : (blowup log_blowup : ℕ) (air other : PlainAir) (m n : SystemNumbers)
      (u w : List (List ℕ)) → blowup ≡ log_blowup → air ≡ other → m ≡ n → u ≡ w
      → Fault blowup air (with_trace m u) → Fault log_blowup other (with_trace n w)
  unproved_named blowup log_blowup air other m n u w same a b d h =
      subst (λ x. Fault x other (with_trace n w)) same
      (subst (λ x. Fault blowup x (with_trace n w)) a
      (subst (λ x. Fault blowup air (with_trace x w)) b
      (subst (λ x. Fault blowup air (with_trace m x)) d h)))

pub satisfied_named : {V : Type 0} (K : FieldOps V) (order : ℕ) (canonical : V → ℕ)
    (air other : PlainAir) (m n : SystemNumbers) (t u : List (List ℕ)) → air ≡ other → m ≡ n
    → t ≡ u → IsSatisfiedIn K order canonical air (with_trace m t)
    → IsSatisfiedIn K order canonical other (with_trace n u)
satisfied_named K order canonical air other m n t u a b d h =
    subst (λ x. IsSatisfiedIn K order canonical x (with_trace n u)) a
    (subst (λ x. IsSatisfiedIn K order canonical air (with_trace x u)) b
    (subst (λ x. IsSatisfiedIn K order canonical air (with_trace m x)) d h))

-- a form has its proof's height
pub same_height : {O Seen Numbers Form : Type 0} (seen : O → Seen) (numbers : Seen → Numbers)
    (listed : Form → Numbers) (proof : Proof BabyBear4 Digest O) (form : PlainStarkProof Form)
    → stark_numbers numbers (stark_seen seen proof) ≡ stark_listed listed form
    → proof.log_height ≡ form.log_height
same_height seen numbers listed proof form e =
    ap (λ (parts : StarkParts (List ℕ) _). parts.log_height) e
