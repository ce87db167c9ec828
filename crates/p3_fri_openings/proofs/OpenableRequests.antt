-- Requests that may be opened, and one with a matrix among them.
use Rattle.std.proofs.Common.{◌≡◌, ◌≢◌, ◌<◌, ℕ, List, [], ◌∷◌, ◌++◌, map, length, get_or, All}
use Rattle.std.proofs.Common.{refl, sym, subst, ap, ◌∙◌, arith}
use Rattle.std.specs.List.{flat_map}
use Rattle.std.proofs.lemmas.List.{length-map}
use Rattle.std.proofs.lemmas.List.Elements.{All-map, All-head, All-tail}
use Rattle.std.proofs.lemmas.List.Folds.{flat_map-map, length-flat_map-take}
use Rattle.p3_pcs.specs.declared.requests.OpeningRequest.{OpeningRequest}
use Rattle.p3_pcs.specs.Requests.{Held, Request, AreOpenable, request}
use Rattle.p3_fri_openings.specs.Openable.{MayBeOpened}

-- a list joined of lists, of which one isn't empty
pub joined_of_some : {X A : Type 0} (f : X → List A) (xs : List X) (i : ℕ) (x : X) → i < length xs
    → x ≡ get_or xs i x → length (f x) ≢ 0 → flat_map f xs ≢ []
joined_of_some f xs i x h is some e =
    let bound = length-flat_map-take f xs i x h in
    let none = ap length e in
    let size = ap (λ y. length (f y)) is in
    some (omega (arith, bound, none, size))

-- a list joined of empty lists
pub joined_of_none : {X A : Type 0} (f : X → List A) (xs : List X) → All (λ x. f x ≡ []) xs
    → flat_map f xs ≡ []
joined_of_none f [] none = refl
joined_of_none f (x ∷ xs) none =
    ap (λ ys. ys ++ flat_map f xs) (All-head (λ y. f y ≡ []) x xs none)
    ∙ joined_of_none f xs (All-tail (λ y. f y ≡ []) x xs none)

module _ {D A E : Type 0} (HasCoset : A → Type 0) (committed : D → List A) (held : A → Held E) where
  -- as many are held as committed, so that where some are held is where some are committed
  held_of_none : (rs : List (OpeningRequest D E))
      → flat_map (λ r. map held (committed r.prover_data.now)) rs ≡ []
      → flat_map (λ r. committed r.prover_data.now) rs ≡ []
  held_of_none [] e = refl
  held_of_none (r ∷ rs) e = split (committed r.prover_data.now) (λ k. held_of_none rs k) e
    where
      split : (ms : List A)
          → (flat_map (λ q. map held (committed q.prover_data.now)) rs ≡ []
          → flat_map (λ q. committed q.prover_data.now) rs ≡ [])
          → map held ms ++ flat_map (λ q. map held (committed q.prover_data.now)) rs ≡ []
          → ms ++ flat_map (λ q. committed q.prover_data.now) rs ≡ []
      split [] rest k = rest k
      split (m ∷ ms) rest k = cc

  -- they meet an opening's condition, whatever of a matrix is held
  pub openable : (rs : List (OpeningRequest D E)) → MayBeOpened HasCoset committed rs
      → AreOpenable (λ d. All HasCoset (committed d)) (λ d. map held (committed d)) (map request rs)
  openable rs may = record {
    data_openable = All-map (λ (r : Request D E). All HasCoset (committed r.datum)) request rs
        may.cosets;
    points = All-map (λ (r : Request D E). length r.points ≡ length (map held (committed r.datum)))
        request rs
        (λ k d h. let r = get_or rs k d in
        length-map r.points.items (λ v. v.items) ∙ may.points k d h
        ∙ sym (length-map (committed r.prover_data.now) held));
    some_matrix = λ e. may.some_matrix (held_of_none rs
        (sym (flat_map-map (λ (r : Request D E). map held (committed r.datum)) request rs) ∙ e));
  }

-- whether they may be opened is told by the list alone
pub openable_same : {D E : Type 0} {CanOpen : D → Type 0} {held : D → List (Held E)}
    {xs ys : List (OpeningRequest D E)} → xs ≡ ys
    → AreOpenable CanOpen held (map request xs) → AreOpenable CanOpen held (map request ys)
openable_same {CanOpen = CanOpen} {held = held} e h =
    subst (λ rs. AreOpenable CanOpen held (map request rs)) e h
