-- Opened values cut in two: those that are shown, and the random ones after them.
use Rattle.std.specs.Prelude.{◌≡◌, ◌-◌, ℕ, List, map, take, drop, length, All, Option}
use Rattle.std.specs.List.{enumerate_from}
use Rattle.p3_pcs.specs.Requests.{Held, Request, honest_values}
use Rattle.p3_fri_hiding_openings.specs.RandomValues.{count_at}

module _ {E : Type 0} (count : ℕ) where
  -- all but the last `count` values
  abbrev pub shown : List E → List E
  shown values = take (length values - count) values

  -- the last `count` values
  abbrev pub kept_back : List E → List E
  kept_back values = drop (length values - count) values

  -- a matrix without its last `count` columns
  abbrev pub shown_of : Held E → Held E
  shown_of m = record m { values_at = λ z. shown (m.values_at z) }

module _ {E : Type 0} (num_random : ℕ) (preprocessing : Option ℕ)
    (values : List (List (List (List E)))) where
  -- what is shown of opened values, by commitment, matrix and point
  abbrev pub shown_values : List (List (List (List E)))
  shown_values = map (λ (round, matrices).
      map (map (shown (count_at num_random preprocessing round))) matrices)
      (enumerate_from 0 values)

  -- and what is kept back of them
  abbrev pub kept_values : List (List (List (List E)))
  kept_values = map (λ (round, matrices).
      map (map (kept_back (count_at num_random preprocessing round))) matrices)
      (enumerate_from 0 values)

-- of data that hold others inside, and of which so many last columns are hidden
module _ {D D' E : Type 0} (inner : D → D') (hidden : D → ℕ) (held : D' → List (Held E)) where
  -- what is shown of the polynomials inside
  abbrev pub held_shown : D → List (Held E)
  held_shown d = map (shown_of (hidden d)) (held (inner d))

  -- the same request of the data inside
  abbrev pub request_inside : Request D E → Request D' E
  request_inside r = record { datum = inner r.datum; points = r.points }

  -- what is kept back of a request's values
  abbrev pub kept_of : Request D E → List (List (List E))
  kept_of r = map (map (kept_back (hidden r.datum))) (honest_values held (request_inside r))

-- the data of each request hides as many columns as its place says: none in the preprocessed one
abbrev pub HideAsNamed : {D E : Type 0} → (hidden : D → ℕ) (num_random : ℕ)
    (preprocessing : Option ℕ) → List (Request D E) → Type 0
HideAsNamed hidden num_random preprocessing requests =
    All (λ (round, r). hidden r.datum ≡ count_at num_random preprocessing round)
    (enumerate_from 0 requests)
