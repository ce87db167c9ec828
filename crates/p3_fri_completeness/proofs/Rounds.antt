-- Rounds that come of requests, with the committed polynomials' values, are what the requests open.
use Rattle.std.proofs.Common.{◌≡◌, ℕ, List, [], ◌∷◌, map, refl, sym, ap, ◌∙◌}
use Rattle.p3_matrix.specs.declared.dense.RowMajorMatrix.{RowMajorMatrix}
use Rattle.p3_pcs.specs.declared.requests.OpeningRequest.{OpeningRequest}
use Rattle.p3_pcs.specs.Claims.{zip_with}
use Rattle.p3_pcs.specs.Requests.{Request, request, honest_values}
use Rattle.p3_fri_relation.specs.Setting.{Fields}
use Rattle.p3_fri_openings.specs.declared.round.OpeningRound.{OpeningRound}
use Rattle.p3_fri_openings.specs.Committed.{committed_values}
use Rattle.p3_fri_openings.specs.Opened.{values_asked}
use Rattle.p3_fri_openings.specs.Requests.{round_request, matrices_request}
use Rattle.p3_fri_batch.specs.Words.{Opened}
use Rattle.p3_fri_batch.specs.Rounds.{opened_by_round, opened_honestly}
use Rattle.p3_fri_batch.proofs.Honest.{rounds_opened}
use Rattle.p3_fri_openings.specs.Held.{held_in, held_of}
use Rattle.p3_fri_completeness.specs.Requests.{round_opened}
use Rattle.algebra.proofs.Lists.{map-agree, map-map}

module _ {F E : Type 0} (f : Fields F E) (log_blowup : ℕ) where
  values_held : (ms : List (RowMajorMatrix F)) (lists : List (List E))
      → zip_with (λ m points. map m.values_at points) (map (held_in f log_blowup) ms) lists
      ≡ zip_with (λ m points. map (committed_values f log_blowup m) points) ms lists
  values_held [] lists = refl
  values_held (m ∷ ms) [] = refl
  values_held (m ∷ ms) (points ∷ lists) =
      ap (λ rest. map (committed_values f log_blowup m) points ∷ rest) (values_held ms lists)

  module _ {D : Type 0} (committed : D → List (RowMajorMatrix F))
      (rounds : List (OpeningRound F E)) (requests : List (OpeningRequest D E))
      (same : map round_request rounds ≡ map (matrices_request committed) requests) where
    opened_from : Request (List (RowMajorMatrix F)) E → List (Opened F E)
    opened_from r = zip_with (opened_honestly f log_blowup) r.datum r.points

    values_from : Request (List (RowMajorMatrix F)) E → List (List (List E))
    values_from r = zip_with (λ m points. map (committed_values f log_blowup m) points) r.datum r.points

    -- what is opened, by round
    pub opened_by_request : opened_by_round rounds (map (values_asked f log_blowup) rounds)
        ≡ map (round_opened f committed log_blowup) (map request requests)
    unfolding opened_from
    opened_by_request =
        rounds_opened f log_blowup rounds
        ∙ sym (map-map opened_from round_request rounds)
        ∙ ap (λ rs. map opened_from rs) same
        ∙ map-map opened_from (matrices_request committed) requests
        ∙ sym (map-map (round_opened f committed log_blowup) request requests)

    -- and the values
    pub values_by_request : map (values_asked f log_blowup) rounds
        ≡ map (honest_values (held_of f committed log_blowup)) (map request requests)
    unfolding values_from
    values_by_request =
        sym (map-map values_from round_request rounds)
        ∙ ap (λ rs. map values_from rs) same
        ∙ map-map values_from (matrices_request committed) requests
        ∙ map-agree (λ r. values_from (matrices_request committed r))
        (λ r. honest_values (held_of f committed log_blowup) (request r))
        (λ r. sym (values_held (committed r.prover_data.now) (request r).points)) requests
        ∙ sym (map-map (honest_values (held_of f committed log_blowup)) request requests)
