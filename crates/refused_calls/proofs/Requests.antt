-- Requests that may be opened.
use Rattle.std.proofs.Common.{◌≡◌, ◌≢◌, ◌<◌, List, [], ◌∷◌, ◌++◌, map, length, sym, subst, arith, ◌∙◌}
use Rattle.std.proofs.lemmas.List.{length-map}
use Rattle.std.proofs.lemmas.List.Elements.{All-nil, All-cons}
use Rattle.p3_pcs.specs.declared.requests.OpeningRequest.{OpeningRequest}
use Rattle.p3_pcs.specs.Requests.{Held, Request, AreOpenable, request}

-- of data that hold some matrix, with a list of points for each
module _ {D E : Type 0} (CanOpen : D → Type 0) (held : D → List (Held E)) where
  some_held : (ms : List (Held E)) → 0 < length ms → ms ++ [] ≢ []
  some_held [] some e = absurd (omega (arith, some))
  some_held (m ∷ ms) some e = cc

  pub openable : (r : OpeningRequest D E) (rs : List (OpeningRequest D E)) → rs ≡ r ∷ []
      → CanOpen r.prover_data.now → length r.points.items ≡ length (held r.prover_data.now)
      → 0 < length r.points.items → AreOpenable CanOpen held (map request rs)
  openable r rs is stands one_each some =
      subst (λ (qs : List (OpeningRequest D E)). AreOpenable CanOpen held (map request qs)) (sym is)
      (record {
        data_openable = All-cons (λ (q : Request D E). CanOpen q.datum) (request r) [] stands
            (All-nil (λ (q : Request D E). CanOpen q.datum));
        points = All-cons (λ (q : Request D E). length q.points ≡ length (held q.datum)) (request r)
            [] (length-map r.points.items (λ v. v.items) ∙ one_each)
            (All-nil (λ (q : Request D E). length q.points ≡ length (held q.datum)));
        some_matrix = some_held (held r.prover_data.now) (omega (arith, some, one_each));
      })
