-- Requests that meet an opening's condition may be opened.
use Rattle.std.proofs.Common.{◌≡◌, List, [], ◌∷◌, ◌++◌, map, length, All, refl, sym, ap, ap₂, ◌∙◌}
use Rattle.std.specs.List.{flat_map}
use Rattle.std.proofs.lemmas.List.{length-map}
use Rattle.algebra.proofs.Lists.{Each, each_from_All, All_from_each}
use Rattle.p3_pcs.specs.declared.requests.OpeningRequest.{OpeningRequest}
use Rattle.p3_pcs.specs.Requests.{Held, Request, AreOpenable, request}
use Rattle.p3_fri_openings.specs.Openable.{MayBeOpened}
use Rattle.fri_commitments.proofs.Preprocessing.{front_none, back_none}

-- what holds of each image
each_image : {X Y : Type 0} (f : X → Y) (P : Y → Type 0) (xs : List X) → Each P (map f xs) → Each (λ x. P (f x)) xs
each_image f P [] all = tt
each_image f P (x ∷ xs) all = (all.0, each_image f P xs all.1)

module _ {D A E : Type 0} (HasCoset : A → Type 0) (committed : D → List A) (held : A → Held E) where
  lists_long : (rs : List (OpeningRequest D E))
      → Each (λ r. length (request r).points ≡ length (map held (committed r.prover_data.now))) rs
      → Each (λ r. length r.points.items ≡ length (committed r.prover_data.now)) rs
  lists_long [] all = tt
  lists_long (r ∷ rs) all = (
    sym (length-map r.points.items (λ v. v.items)) ∙ all.0 ∙ length-map (committed r.prover_data.now) held,
    lists_long rs all.1,
  )

  -- nothing is held where nothing is committed to
  none_held : (rs : List (OpeningRequest D E)) → flat_map (λ r. committed r.prover_data.now) rs ≡ []
      → flat_map (λ (q : Request D E). map held (committed q.datum)) (map request rs) ≡ []
  none_held [] e = refl
  none_held (r ∷ rs) e =
      let ms = committed r.prover_data.now in
      let others = flat_map (λ q. committed q.prover_data.now) rs in
      ap₂ (λ us vs. us ++ vs) (ap (λ ks. map held ks) (front_none ms others e)) (none_held rs (back_none ms others e))

  pub may_be_opened : (rs : List (OpeningRequest D E))
      → AreOpenable (λ d. All HasCoset (committed d)) (λ d. map held (committed d)) (map request rs)
      → MayBeOpened HasCoset committed rs
  may_be_opened rs can = record {
    cosets = All_from_each _ _ (each_image request (λ (q : Request D E). All HasCoset (committed q.datum)) rs
        (each_from_All _ _ can.data_openable));
    points = All_from_each _ _ (lists_long rs
        (each_image request (λ (q : Request D E). length q.points ≡ length (map held (committed q.datum))) rs
        (each_from_All _ _ can.points)));
    some_matrix = λ none. can.some_matrix (none_held rs none);
  }
