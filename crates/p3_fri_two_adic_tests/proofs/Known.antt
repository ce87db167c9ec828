-- What is known of a commitment, from what was committed to.
use Rattle.std.proofs.Common.{◌≡◌, ◌≢◌, ℕ, List, [], ◌∷◌, ◌++◌, map, length, All}
use Rattle.std.proofs.Common.{refl, sym, subst, ap, ◌∙◌, arith}
use Rattle.std.proofs.lemmas.List.{map_push}
use Rattle.std.specs.List.{AllZip}
use Rattle.std.proofs.lemmas.List.Elements.{All-cons, All-map}
use Rattle.p3_pcs.specs.declared.claims.KnownCommitment.{KnownCommitment}
use Rattle.p3_pcs.specs.declared.requests.OpeningRequest.{OpeningRequest}
use Rattle.p3_pcs.specs.Requests.{Held, Request, AreHonest, FitDomains, request}

-- domains of evaluations have the sizes of what extends these
pub sizes_extended : {E Domain Values : Type 0} (Extends : Held E → Domain × Values → Type 0)
    (size : Domain → ℕ) (ds : List Domain) (ms : List (Held E)) (es : List (Domain × Values))
    → AllZip Extends ms es
    → ((m : Held E) (e : Domain × Values) → Extends m e → m.size ≡ size e.0)
    → ds ≡ map (λ e. e.0) es → map size ds ≡ map (λ m. m.size) ms
sizes_extended {E} {Domain} {Values} Extends size ds ms es extends sized are =
    ap (λ ds. map size ds) are ∙ each ms es extends
  where
    each : (ms : List (Held E)) (es : List (Domain × Values)) → AllZip Extends ms es
        → map size (map (λ e. e.0) es) ≡ map (λ m. m.size) ms
    each [] [] h = refl
    each [] (e ∷ es) h = absurd h
    each (m ∷ ms) [] h = absurd h
    each (m ∷ ms) (e ∷ es) (here, rest) =
        let first : size e.0 ≡ m.size = sym (sized m e here) in
        let others = each ms es rest in
        cc

-- the domains of one more evaluation
pub one_more_domain : {A B : Type 0} (es more_es : List (A × B)) (e : A × B) (ds more_ds : List A)
    → more_es ≡ es ++ e ∷ [] → more_ds ≡ ds ++ e.0 ∷ [] → ds ≡ map (λ e. e.0) es
    → more_ds ≡ map (λ e. e.0) more_es
one_more_domain {A} {B} es more_es e ds more_ds pushed_e pushed_d before =
    pushed_d ∙ ap (λ (ds : List A). ds ++ e.0 ∷ []) before
    ∙ sym (map_push (λ (e : A × B). e.0) es e)
    ∙ ap (λ (es : List (A × B)). map (λ (e : A × B). e.0) es) (sym pushed_e)

-- one request
module _ {D E : Type 0} (r : OpeningRequest D E) where
  one : {X : Type 0} (P : X → Type 0) (x : X) → P x → All P (x ∷ [])
  one P x h = All-cons P x [] h (λ k d below. absurd (omega (arith, below)))

  pub one_is_honest : (IsHonest : D → Type 0) (rs : List (OpeningRequest D E)) → rs ≡ r ∷ []
      → IsHonest r.prover_data.now → All (λ list. length list.items ≢ 0) r.points.items
      → AreHonest IsHonest (map request rs)
  one_is_honest IsHonest rs is honest points =
      subst (λ qs. AreHonest IsHonest (map request qs)) (sym is) (record {
        data_honest = one (λ (q : Request D E). IsHonest q.datum) (request r) honest;
        points = one (λ (q : Request D E). All (λ zs. zs ≢ []) q.points) (request r)
            (All-map (λ zs. zs ≢ []) (λ list. list.items) r.points.items
            (λ k d below none. points k d below (ap length none)));
      })

  -- known domains of the sizes of what is held fit it
  pub one_fits : {Com Domain : Type 0} (held : D → List (Held E)) (domain_size : Domain → ℕ)
      (known : KnownCommitment Com Domain) (ks : List (KnownCommitment Com Domain)) (rs : List (OpeningRequest D E))
      → ks ≡ known ∷ [] → rs ≡ r ∷ []
      → map domain_size known.domains.items ≡ map (λ m. m.size) (held r.prover_data.now)
      → FitDomains held domain_size (map (λ k. k.domains.items) ks) (map request rs)
  one_fits held domain_size known ks rs known_is is sizes = cc
