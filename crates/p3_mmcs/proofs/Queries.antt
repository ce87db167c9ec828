-- What holds of each index with its rows and its path, by place.
use Rattle.std.proofs.Common.{◌≡◌, ℕ, zero, suc, ◌+◌, ◌-◌, ◌<◌, ◌≤◌, List, [], ◌∷◌, length, get_or}
use Rattle.std.proofs.Common.{take, drop, map, refl, ap, sym, subst, ◌∙◌, arith, inl, inr}
use Rattle.std.proofs.lemmas.List.{take-map, drop-map, get_or-take, get_or-drop}
use Rattle.std.proofs.lemmas.List.{length-take, length-drop, length-map}
use Rattle.p3_mmcs.specs.Tree.{EachQuery, SomeQuery}

module _ {T : Type 0} (P : ℕ → List (List T) → List (List ℕ) → Type 0) where
  pub each_counts : (indices : List ℕ) (sets : List (List (List T))) (paths : List (List (List ℕ)))
      → EachQuery P indices sets paths
      → (length sets ≡ length indices) × (length paths ≡ length indices)
  each_counts [] [] [] h = (refl, refl)
  each_counts [] [] (path ∷ paths) h = absurd h
  each_counts [] (set ∷ sets) paths h = absurd h
  each_counts (i ∷ indices) [] paths h = absurd h
  each_counts (i ∷ indices) (set ∷ sets) [] h = absurd h
  each_counts (i ∷ indices) (set ∷ sets) (path ∷ paths) h = let e =
      each_counts indices sets paths h.1 in (ap suc e.0, ap suc e.1)

  pub each_at : (indices : List ℕ) (sets : List (List (List T))) (paths : List (List (List ℕ)))
      → EachQuery P indices sets paths
      → (k : ℕ) → k < length indices → P (get_or indices k 0) (get_or sets k []) (get_or paths k [])
  each_at [] sets paths h k l = absurd (omega (arith, l))
  each_at (i ∷ indices) [] paths h k l = absurd h
  each_at (i ∷ indices) (set ∷ sets) [] h k l = absurd h
  each_at (i ∷ indices) (set ∷ sets) (path ∷ paths) h zero l = h.0
  each_at (i ∷ indices) (set ∷ sets) (path ∷ paths) h (suc k) l =
      each_at indices sets paths h.1 k (omega (arith, l))

  pub each_from : (indices : List ℕ) (sets : List (List (List T))) (paths : List (List (List ℕ)))
      → length sets ≡ length indices → length paths ≡ length indices
      → ((k : ℕ) → k < length indices
      → P (get_or indices k 0) (get_or sets k []) (get_or paths k []))
      → EachQuery P indices sets paths
  each_from [] [] [] e f h = tt
  each_from [] [] (path ∷ paths) e f h = absurd (omega (arith, f))
  each_from [] (set ∷ sets) paths e f h = absurd (omega (arith, e))
  each_from (i ∷ indices) [] paths e f h = absurd (omega (arith, e))
  each_from (i ∷ indices) (set ∷ sets) [] e f h = absurd (omega (arith, f))
  each_from (i ∷ indices) (set ∷ sets) (path ∷ paths) e f h = (
    h zero (omega arith),
    each_from indices sets paths (omega (arith, e))
        (omega (arith, f)) (λ k l. h (suc k) (omega (arith, l))),
  )

  pub some_at : (indices : List ℕ) (sets : List (List (List T))) (paths : List (List (List ℕ)))
      → length sets ≡ length indices → length paths ≡ length indices
      → (k : ℕ) → k < length indices → P (get_or indices k 0) (get_or sets k []) (get_or paths k [])
      → SomeQuery P indices sets paths
  some_at [] sets paths e f k l p = absurd (omega (arith, l))
  some_at (i ∷ indices) [] paths e f k l p = absurd (omega (arith, e))
  some_at (i ∷ indices) (set ∷ sets) [] e f k l p = absurd (omega (arith, f))
  some_at (i ∷ indices) (set ∷ sets) (path ∷ paths) e f zero l p = inl p
  some_at (i ∷ indices) (set ∷ sets) (path ∷ paths) e f (suc k) l p =
      inr (some_at indices sets paths (omega (arith, e)) (omega (arith, f)) k (omega (arith, l)) p)

  -- and where it is so
  pub some_place : (indices : List ℕ) (sets : List (List (List T))) (paths : List (List (List ℕ)))
      → SomeQuery P indices sets paths → (k : ℕ) × (k < length indices)
      × P (get_or indices k 0) (get_or sets k []) (get_or paths k [])
  some_place [] sets paths s = absurd s
  some_place (i ∷ indices) [] paths s = absurd s
  some_place (i ∷ indices) (set ∷ sets) [] s = absurd s
  some_place (i ∷ indices) (set ∷ sets) (path ∷ paths) s =
      elim s [
        | inl p ↦ (zero, omega arith, p)
        | inr other ↦ let there = some_place indices sets paths other in
            (suc there.0, omega (arith, there.1), there.2)
      ]

-- the entries from `first` on
entry_between : {A B : Type 0} (f : A → B) (xs : List A) (first n k : ℕ) (d : B) → k < n
    → get_or (map f (take n (drop first xs))) k d ≡ get_or (map f xs) (first + k) d
entry_between f xs first n k d below =
    ap (λ ys. get_or ys k d)
    (sym (take-map f n (drop first xs)) ∙ ap (take n) (sym (drop-map f first xs)))
    ∙ get_or-take n (drop first (map f xs)) k d below
    ∙ get_or-drop first (map f xs) k d

-- the queries from `first` on
module _ {T X Y : Type 0} (P : ℕ → List (List T) → List (List ℕ) → Type 0) (f : X → List (List T))
    (h : Y → List (List ℕ)) (indices : List ℕ) (xs : List X) (ys : List Y) (first n : ℕ)
    (within : first + n ≤ length indices) where
  as_many : length (take n (drop first indices)) ≡ n
  as_many = omega (arith, within, length-take n (drop first indices), length-drop first indices)

  abbrev pub part_sets : List (List (List T))
  part_sets = map f (take n (drop first xs))

  abbrev pub part_paths : List (List (List ℕ))
  part_paths = map h (take n (drop first ys))

  at_place : (k : ℕ) → k < n
      → P (get_or (take n (drop first indices)) k 0) (get_or part_sets k []) (get_or part_paths k [])
      → P (get_or indices (first + k) 0) (get_or (map f xs) (first + k) [])
      (get_or (map h ys) (first + k) [])
  at_place k below p =
      subst (λ i. P i (get_or (map f xs) (first + k) []) (get_or (map h ys) (first + k) []))
      (get_or-take n (drop first indices) k 0 below ∙ get_or-drop first indices k 0)
      (subst (λ s. P (get_or (take n (drop first indices)) k 0) s
      (get_or (map h ys) (first + k) [])) (entry_between f xs first n k [] below)
      (subst (P (get_or (take n (drop first indices)) k 0) (get_or part_sets k []))
      (entry_between h ys first n k [] below) p))

  pub each_between : EachQuery P (take n (drop first indices)) part_sets part_paths
      → (k : ℕ) → first ≤ k → k < first + n
      → P (get_or indices k 0) (get_or (map f xs) k []) (get_or (map h ys) k [])
  each_between each k from below =
      let same : first + (k - first) ≡ k = omega (arith, from) in
      subst (λ i. P (get_or indices i 0) (get_or (map f xs) i []) (get_or (map h ys) i [])) same
      (at_place (k - first) (omega (arith, from, below))
      (each_at P (take n (drop first indices)) part_sets part_paths each (k - first)
      (omega (arith, from, below, as_many))))

  pub some_between : length xs ≡ length indices → length ys ≡ length indices
      → SomeQuery P (take n (drop first indices)) part_sets part_paths
      → SomeQuery P indices (map f xs) (map h ys)
  some_between sets paths some =
      let there = some_place P (take n (drop first indices)) part_sets part_paths some in
      let below : there.0 < n = omega (arith, there.1, as_many) in
      some_at P indices (map f xs) (map h ys) (length-map xs f ∙ sets) (length-map ys h ∙ paths)
      (first + there.0) (omega (arith, below, within)) (at_place there.0 below there.2)

-- some index can't have what none has
pub some_refutes : {T : Type 0} (P Q : ℕ → List (List T) → List (List ℕ) → Type 0)
    → ((i : ℕ) (set : List (List T)) (path : List (List ℕ)) → P i set path → Q i set path → ⊥)
    → (indices : List ℕ) (sets : List (List (List T))) (paths : List (List (List ℕ)))
    → SomeQuery P indices sets paths → EachQuery Q indices sets paths → ⊥
some_refutes P Q n [] sets paths s e = s
some_refutes P Q n (i ∷ indices) [] paths s e = s
some_refutes P Q n (i ∷ indices) (set ∷ sets) [] s e = s
some_refutes P Q n (i ∷ indices) (set ∷ sets) (path ∷ paths) s e =
    elim s [
      | inl p ↦ n i set path p e.0
      | inr other ↦ some_refutes P Q n indices sets paths other
          e.1
    ]

pub some_impossible : {T : Type 0} (indices : List ℕ) (sets : List (List (List T)))
    (paths : List (List (List ℕ))) → SomeQuery (λ _ _ _. ⊥) indices sets paths → ⊥
some_impossible [] sets paths s = s
some_impossible (i ∷ indices) [] paths s = s
some_impossible (i ∷ indices) (set ∷ sets) [] s = s
some_impossible (i ∷ indices) (set ∷ sets) (path ∷ paths) s =
    elim s [ inl p ↦ p | inr other ↦ some_impossible indices sets paths other ]
