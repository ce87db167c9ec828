-- One column, and a request for it that may be opened.
use Rattle.std.proofs.Common.{◌≡◌, ◌≢◌, ℕ, List, [], ◌∷◌, ◌++◌, map, length, All, sym, subst, ◌∙◌}
use Rattle.std.proofs.lemmas.List.{length-map}
use Rattle.std.proofs.lemmas.List.Elements.{All-nil, All-cons}
use Rattle.p3_matrix.specs.declared.dense.RowMajorMatrix.{RowMajorMatrix}
use Rattle.p3_fri_extensions.specs.Extension.{FitsDomain}
use Rattle.p3_pcs.specs.declared.requests.OpeningRequest.{OpeningRequest}
use Rattle.p3_pcs.specs.Requests.{Held, Request, AreOpenable, request}

-- of data that hold one matrix, with one list of points
module _ {D E : Type 0} (CanOpen : D → Type 0) (held : D → List (Held E)) where
  some_held : (ms : List (Held E)) → length ms ≡ 1 → ms ++ [] ≢ []
  some_held [] n e = cc
  some_held (m ∷ ms) n e = cc

  pub openable : (r : OpeningRequest D E) (rs : List (OpeningRequest D E)) → rs ≡ r ∷ []
      → CanOpen r.prover_data.now → length r.points.items ≡ 1 → length (held r.prover_data.now) ≡ 1
      → AreOpenable CanOpen held (map request rs)
  openable r rs is stands points one =
      subst (λ (qs : List (OpeningRequest D E)). AreOpenable CanOpen held (map request qs)) (sym is)
      (record {
        data_openable = All-cons (λ (q : Request D E). CanOpen q.datum) (request r) [] stands
            (All-nil (λ (q : Request D E). CanOpen q.datum));
        points = All-cons (λ (q : Request D E). length q.points ≡ length (held q.datum)) (request r)
            [] (length-map r.points.items (λ v. v.items) ∙ points ∙ sym one)
            (All-nil (λ (q : Request D E). length q.points ≡ length (held q.datum)));
        some_matrix = some_held (held r.prover_data.now) one;
      })

-- one column that has an extension
pub one_fits : {Dom V : Type 0} (log_size : Dom → ℕ) (e : Dom × RowMajorMatrix V)
    → FitsDomain 27 1 (log_size e.0) e.1
    → All (λ e. FitsDomain 27 1 (log_size e.0) e.1) (e ∷ [])
one_fits {Dom} {V} log_size e h =
    let Fits : Dom × RowMajorMatrix V → Type 0 = λ e. FitsDomain 27 1 (log_size e.0) e.1 in
    All-cons Fits e [] h (All-nil Fits)
