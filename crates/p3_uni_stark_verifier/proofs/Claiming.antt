-- What is opened, by what a scheme says of the claims that were made.
use Rattle.std.proofs.Common.{◌≡◌, ℕ, List, Option, sym, ap, subst, ◌∙◌}
use Rattle.p3_pcs.specs.Claims.{Claim}
use Rattle.p3_uni_stark_verifier.specs.declared.proof.Statement.{Statement}
use Rattle.p3_uni_stark_verifier.specs.declared.proof.Proof.{Proof}
use Rattle.p3_uni_stark_verifier.specs.Claimed.{preprocessed_index, stark_claims}
use Rattle.p3_uni_stark_verifier.specs.Opened.{trace_generator}
use Rattle.p3_uni_stark_verifier.specs.Relation.{IsTraceDomain, claims_at, IsOpened, IsLastState, OpeningFault}
use Rattle.p3_uni_stark_verifier.specs.Setting.{StarkSetting}
use Rattle.p3_uni_stark_verifier.specs.Shown.{key_commitment}

module _ {V E C Com Dom D Opening Error ProverError : Type 0}
    (S : StarkSetting V E C Com Dom D Opening Error ProverError)
    (s : Statement V Com) (p : Proof E Com Opening) (z : E) where
  -- the claims of a commitment and of a next point that were computed
  pub claims_made : (domain : Dom) (preprocessed : Option Com) (y : E)
      (claims : List (Claim E Com Dom))
      → claims ≡ stark_claims domain preprocessed p.commitments p.opened_values z y
      → preprocessed ≡ key_commitment s.preprocessed
      → y ≡ S.fields.ext.mul (trace_generator S.fields p.log_height) z
      → claims ≡ claims_at S s p domain z
  claims_made domain preprocessed y claims e f h = e
      ∙ ap (λ known. stark_claims domain known p.commitments p.opened_values z y) f
      ∙ ap (λ x. stark_claims domain (key_commitment s.preprocessed) p.commitments p.opened_values
      z x) h

module _ {V E C Com Dom D Opening Error ProverError : Type 0}
    (S : StarkSetting V E C Com Dom D Opening Error ProverError)
    (s : Statement V Com) (p : Proof E Com Opening) (z : E) (c : C)
    (domain : Dom) (is : IsTraceDomain S s p domain)
    (only : (d : Dom) → IsTraceDomain S s p d → d ≡ domain)
    (claims : List (Claim E Com Dom)) (made : claims ≡ claims_at S s p domain z)
    (index : Option ℕ) (named : index ≡ preprocessed_index (key_commitment s.preprocessed)) where
  abbrev place : Option ℕ
  place = preprocessed_index (key_commitment s.preprocessed)

  pub opened_from : S.scheme.Accepts index c claims p.opening_proof → IsOpened S s p z c
  opened_from a = record {
    domain = domain;
    is_domain = is;
    accepted = subst (λ i. S.scheme.Accepts i c (claims_at S s p domain z) p.opening_proof) named
        (subst (λ cs. S.scheme.Accepts index c cs p.opening_proof) made a);
  }

  pub accepted_from : IsOpened S s p z c → S.scheme.Accepts index c claims p.opening_proof
  accepted_from o =
      let here : S.scheme.Accepts place c (claims_at S s p domain z) p.opening_proof =
      subst (λ d. S.scheme.Accepts place c (claims_at S s p d z) p.opening_proof)
      (only o.domain o.is_domain) o.accepted in
      subst (λ cs. S.scheme.Accepts index c cs p.opening_proof) (sym made)
      (subst (λ i. S.scheme.Accepts i c (claims_at S s p domain z) p.opening_proof) (sym named) here)

  pub state_from : (last : C) → last ≡ S.scheme.last_state index c claims p.opening_proof
      → IsLastState S s p z c last
  state_from last e = record {
    domain = domain;
    is_domain = is;
    state = e ∙ ap (λ i. S.scheme.last_state i c claims p.opening_proof) named
        ∙ ap (λ cs. S.scheme.last_state place c cs p.opening_proof) made;
  }

  pub fault_from : (e : Error) → S.scheme.IsTrueRefusal index claims p.opening_proof c e
      → OpeningFault S s p z c e
  fault_from e h = record {
    domain = domain;
    is_domain = is;
    refusal = subst (λ i. S.scheme.IsTrueRefusal i (claims_at S s p domain z) p.opening_proof c e)
        named (subst (λ cs. S.scheme.IsTrueRefusal index cs p.opening_proof c e) made h);
  }
