-- What a scheme says of what was asked, said of the data of a proof.
use Rattle.std.proofs.Common.{◌≡◌, ℕ, Bool, List, sym, ap, ap₂, subst, ◌∙◌}
use Rattle.std.proofs.Common.{Option, None, Some, if◌then◌else◌}
use Rattle.std.specs.Option.{is_some}
use Rattle.p3_pcs.specs.Requests.{Request}
use Rattle.p3_pcs.specs.Scheme.{Scheme, AreHonestIn, values_asked, FitRequests, claims_asked}
use Rattle.p3_stark_pcs.specs.Scheme.{StarkScheme, IsLawfulStark}
use Rattle.p3_uni_stark_verifier.specs.declared.proof.OpenedValues.{OpenedValues}
use Rattle.p3_uni_stark_verifier.specs.Claimed.{preprocessed_index, stark_claims}
use Rattle.p3_uni_stark_opening.specs.declared.opening.ColumnData.{ColumnData}
use Rattle.p3_uni_stark_opening.specs.Opened.{stark_requests, if_some, commitments_to, AreTakenFrom}
use Rattle.p3_uni_stark_opening.specs.Opened.{AreOpenable, AreOpened}
use Rattle.p3_uni_stark_opening.proofs.Asked.{openable, honest}
use Rattle.p3_uni_stark_opening.proofs.Shown.{opened_are, domains, domains_fit, claims_are}

-- the place of preprocessed columns, by whether there are such
pub place_is : {D Com : Type 0} (f : D → Com) (o : Option D) (index : Option ℕ) (present : Bool)
    → index ≡ (if present then Some 0 else None) → present ≡ is_some o
    → index ≡ preprocessed_index (if_some f o)
place_is f None index present e h = e ∙ ap (λ b. if b then Some 0 else None) h
place_is f (Some d) index present e h = e ∙ ap (λ b. if b then Some 0 else None) h

module _ {E C V Dom Com D Opening Error ProverError : Type 0}
    (r : Scheme E C V Dom Com D Opening Error ProverError) (t : StarkScheme E V Dom D ProverError)
    (count size : ℕ) (z y : E) (committed : ColumnData D)
    (are : AreOpenable r t count size committed) (asked : List (Request D E))
    (is : asked ≡ stark_requests count z y committed) (index : Option ℕ)
    (named : index ≡ preprocessed_index (if_some r.commitment_of committed.preprocessed)) where
  abbrev known : Option Com
  known = if_some r.commitment_of committed.preprocessed

  pub can_open : IsLawfulStark r t → t.CanOpenAt index asked
  can_open lawful = subst (λ i. t.CanOpenAt i asked) (sym named)
      (subst (λ rs. t.CanOpenAt (preprocessed_index known) rs) (sym is)
      (lawful.openable (preprocessed_index known) (stark_requests count z y committed)
      (openable r t count size z y committed are)))

  pub honest_asked : AreHonestIn r asked
  honest_asked = subst (λ rs. AreHonestIn r rs) (sym is)
      (honest r t count size z y committed are)

  pub opened_asked : (values vs : List (List (List (List E)))) (opened : OpenedValues E)
      (first last : Bool) → first ≡ is_some committed.preprocessed
      → last ≡ is_some committed.random → values ≡ values_asked r asked → vs ≡ values
      → AreTakenFrom vs first last opened → AreOpened r committed z y opened
  opened_asked values vs opened first last f g e h taken =
      opened_are r t count size z y committed are vs opened
      (h ∙ e ∙ ap (λ rs. values_asked r rs) is)
      (subst (λ b. AreTakenFrom vs b (is_some committed.random) opened) f
      (subst (λ b. AreTakenFrom vs first b opened) g taken))

  module _ (domain : Dom) (fits : r.domain_size domain ≡ size) where
    abbrev pub all_domains : List (List Dom)
    all_domains = domains r t count size z y committed are domain fits

    pub fit_asked : FitRequests r all_domains asked
    fit_asked = subst (λ rs. FitRequests r all_domains rs) (sym is)
        (domains_fit r t count size z y committed are domain fits)

    module _ (c : C) (opened : OpenedValues E) (o : AreOpened r committed z y opened)
        (proof : Opening) where
      claims_is : claims_asked r all_domains asked
          ≡ stark_claims domain known (commitments_to r committed) opened z y
      claims_is = ap (λ rs. claims_asked r all_domains rs) is
          ∙ claims_are r t count size z y committed are domain fits opened o

      pub accepted_asked : r.Accepts index c (claims_asked r all_domains asked) proof
          → r.Accepts (preprocessed_index known) c
          (stark_claims domain known (commitments_to r committed) opened z y) proof
      accepted_asked h = subst (λ i. r.Accepts i c
          (stark_claims domain known (commitments_to r committed) opened z y) proof) named
          (subst (λ cs. r.Accepts index c cs proof) claims_is h)

      pub state_asked : (last : C)
          → last ≡ r.last_state index c (claims_asked r all_domains asked) proof
          → last ≡ r.last_state (preprocessed_index known) c
          (stark_claims domain known (commitments_to r committed) opened z y) proof
      state_asked last e = e ∙ ap₂ (λ i cs. r.last_state i c cs proof) named claims_is
