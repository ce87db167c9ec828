-- The claims of the values that are shown, with those that are kept back appended, are the claims of
-- all values.
use Rattle.std.proofs.Common.{◌≡◌, ℕ, zero, suc, ◌+◌, ◌-◌, List, [], ◌∷◌, ◌++◌, map, length, Option}
use Rattle.std.proofs.Common.{All, refl, sym, ap, ap₂, ◌∙◌, arith}
use Rattle.std.specs.List.{enumerate_from}
use Rattle.std.proofs.lemmas.List.{take-append-drop}
use Rattle.algebra.proofs.Lists.{map-map}
use Rattle.p3_pcs.specs.Claims.{zip_with, point_claims, matrix_claims}
use Rattle.p3_pcs.specs.Requests.{Held, Request, honest_values, honest_claim, honest_claims}
use Rattle.p3_fri_openings.specs.SchemeClaims.{matrix_claim, relation_claim}
use Rattle.p3_fri_openings.specs.SchemeClaims.{relation_claims}
use Rattle.p3_fri_hiding_openings.specs.RandomValues.{count_at, with_values, with_points}
use Rattle.p3_fri_hiding_openings.specs.RandomValues.{with_matrices, with_random_values}
use Rattle.p3_fri_hiding_openings.specs.Halves.{shown, kept_back, shown_of, shown_values}
use Rattle.p3_fri_hiding_openings.specs.Halves.{kept_values, held_shown, request_inside, kept_of}
use Rattle.p3_fri_hiding_openings.specs.Halves.{HideAsNamed}

module _ {E : Type 0} (count : ℕ) where
  whole : (values : List E) → shown count values ++ kept_back count values ≡ values
  whole values = take-append-drop (length values - count) values

  at_points : (points : List E) (values : List (List E))
      → zip_with with_values (point_claims points (map (shown count) values))
      (map (kept_back count) values) ≡ point_claims points values
  at_points [] values = refl
  at_points (z ∷ points) [] = refl
  at_points (z ∷ points) (vs ∷ values) =
      ap₂ (λ v rest. record { point = z; values = v } ∷ rest) (whole vs) (at_points points values)

  of_matrices : {Domain : Type 0} (log_size : Domain → ℕ) (domains : List Domain)
      (points : List (List E)) (values : List (List (List E)))
      → zip_with with_points
      (map (matrix_claim log_size) (matrix_claims domains points (map (map (shown count)) values)))
      (map (map (kept_back count)) values)
      ≡ map (matrix_claim log_size) (matrix_claims domains points values)
  of_matrices log_size [] points values = refl
  of_matrices log_size (d ∷ domains) [] values = refl
  of_matrices log_size (d ∷ domains) (zs ∷ points) [] = refl
  of_matrices log_size (d ∷ domains) (zs ∷ points) (vs ∷ values) =
      ap₂ (λ p rest. record { domain = log_size d; points = p } ∷ rest) (at_points zs vs)
      (of_matrices log_size domains points values)

  honest_shown : (held : List (Held E)) (points : List (List E))
      → zip_with (λ m zs. map m.values_at zs) (map (shown_of count) held) points
      ≡ map (map (shown count)) (zip_with (λ m zs. map m.values_at zs) held points)
  honest_shown [] points = refl
  honest_shown (m ∷ held) [] = refl
  honest_shown (m ∷ held) (zs ∷ points) =
      ap₂ (λ v rest. v ∷ rest) (sym (map-map (shown count) m.values_at zs))
      (honest_shown held points)

module _ {D D' E : Type 0} (inner : D → D') (hidden : D → ℕ) (held : D' → List (Held E)) where
  module _ {Com Domain : Type 0} (commitment_of : D' → Com) (log_size : Domain → ℕ) where
    claim_inside : (domains : List Domain) (r : Request D E)
        → with_matrices (relation_claim log_size (honest_claim (held_shown inner hidden held)
        (λ d. commitment_of (inner d)) domains r)) (kept_of inner hidden held r)
        ≡ relation_claim log_size (honest_claim held commitment_of domains
        (request_inside inner hidden held r))
    claim_inside domains r =
        let n = hidden r.datum in
        let inside = request_inside inner hidden held r in
        ap (λ ms. record { commitment = commitment_of (inner r.datum); matrices = ms })
        (ap (λ vs. zip_with with_points
        (map (matrix_claim log_size) (matrix_claims domains r.points vs))
        (kept_of inner hidden held r)) (honest_shown n (held (inner r.datum)) r.points)
        ∙ of_matrices n log_size domains r.points (honest_values held inside))

    -- with what is kept back of each request, the claims of what is shown are those of all values
    each_inside : (domains : List (List Domain)) (requests : List (Request D E))
        → with_random_values (relation_claims log_size (honest_claims
        (held_shown inner hidden held) (λ d. commitment_of (inner d)) domains requests))
        (map (kept_of inner hidden held) requests)
        ≡ relation_claims log_size (honest_claims held commitment_of domains
        (map (request_inside inner hidden held) requests))
    each_inside [] requests = refl
    each_inside (ds ∷ domains) [] = refl
    each_inside (ds ∷ domains) (r ∷ requests) =
        ap₂ (λ c rest. c ∷ rest) (claim_inside ds r) (each_inside domains requests)

  module _ (num_random : ℕ) (preprocessing : Option ℕ) where
    kept_from : (k : ℕ) (requests : List (Request D E))
        → All (λ (round, r). hidden r.datum ≡ count_at num_random preprocessing round)
        (enumerate_from k requests)
        → map (λ (round, matrices).
        map (map (kept_back (count_at num_random preprocessing round))) matrices)
        (enumerate_from k (map (honest_values held)
        (map (request_inside inner hidden held) requests)))
        ≡ map (kept_of inner hidden held) requests
    kept_from k [] all = refl
    kept_from k (r ∷ requests) all =
        ap₂ (λ v rest. v ∷ rest)
        (ap (λ n. map (map (kept_back n)) (honest_values held
        (request_inside inner hidden held r))) (sym (all zero (k, r) (omega arith))))
        (kept_from (k + 1) requests (λ j d l. all (suc j) d (omega (arith, l))))

    shown_from : (k : ℕ) (requests : List (Request D E))
        → All (λ (round, r). hidden r.datum ≡ count_at num_random preprocessing round)
        (enumerate_from k requests)
        → map (λ (round, matrices).
        map (map (shown (count_at num_random preprocessing round))) matrices)
        (enumerate_from k (map (honest_values held)
        (map (request_inside inner hidden held) requests)))
        ≡ map (honest_values (held_shown inner hidden held)) requests
    shown_from k [] all = refl
    shown_from k (r ∷ requests) all =
        ap₂ (λ v rest. v ∷ rest)
        (ap (λ n. map (map (shown n)) (honest_values held (request_inside inner hidden held r)))
        (sym (all zero (k, r) (omega arith)))
        ∙ sym (honest_shown (hidden r.datum) (held (inner r.datum)) r.points))
        (shown_from (k + 1) requests (λ j d l. all (suc j) d (omega (arith, l))))

    -- what is shown of the values inside are the honest values
    pub shown_inside : (requests : List (Request D E))
        → HideAsNamed hidden num_random preprocessing requests
        → shown_values num_random preprocessing (map (honest_values held)
        (map (request_inside inner hidden held) requests))
        ≡ map (honest_values (held_shown inner hidden held)) requests
    shown_inside requests named = shown_from 0 requests named

    -- and with what is kept back of them, the honest claims are those of the scheme inside
    pub claims_inside : {Com Domain : Type 0} (commitment_of : D' → Com) (log_size : Domain → ℕ)
        (domains : List (List Domain)) (requests : List (Request D E))
        → HideAsNamed hidden num_random preprocessing requests
        → with_random_values (relation_claims log_size (honest_claims
        (held_shown inner hidden held) (λ d. commitment_of (inner d)) domains requests))
        (kept_values num_random preprocessing (map (honest_values held)
        (map (request_inside inner hidden held) requests)))
        ≡ relation_claims log_size (honest_claims held commitment_of domains
        (map (request_inside inner hidden held) requests))
    claims_inside commitment_of log_size domains requests named =
        ap (with_random_values (relation_claims log_size (honest_claims
        (held_shown inner hidden held) (λ d. commitment_of (inner d)) domains requests)))
        (kept_from 0 requests named)
        ∙ each_inside commitment_of log_size domains requests
