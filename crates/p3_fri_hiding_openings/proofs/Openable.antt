-- Requests that may be opened by a scheme that hides, inside.
use Rattle.std.proofs.Common.{◌≡◌, ◌≢◌, ℕ, ◌+◌, ◌≤◌, List, [], ◌∷◌, map, length, All, Option}
use Rattle.std.proofs.Common.{refl, sym, ap, ap₂, ◌∙◌, arith, subst, get_or, Bool}
use Rattle.std.specs.Prelude.{if◌then◌else◌}
use Rattle.std.specs.List.{flat_map}
use Rattle.std.proofs.lemmas.List.{length-map, length-append, nil_from_length}
use Rattle.std.proofs.lemmas.List.Elements.{All-map}
use Rattle.algebra.proofs.Lists.{Each, each_from_All, All_from_each}
use Rattle.p3_matrix.specs.declared.dense.RowMajorMatrix.{RowMajorMatrix}
use Rattle.p3_matrix.specs.Matrix.{matrix_width}
use Rattle.p3_pcs.specs.Requests.{Held, Request, AreOpenable, AreHonest}
use Rattle.p3_stark_pcs.specs.Preprocessing.{AreOpenableAt}
use Rattle.p3_fri_relation.specs.Setting.{Fields}
use Rattle.p3_fri_openings.specs.Rounds.{HasCoset}
use Rattle.p3_fri_openings.specs.Held.{HoldsWords, held_of}
use Rattle.p3_fri_hiding_openings.specs.Halves.{shown_of}
use Rattle.p3_fri_hiding_openings.specs.declared.data.HidingFriPcsProverData.{HidingFriPcsProverData}
use Rattle.p3_fri_hiding_openings.specs.Data.{IsUnopened, IsPreprocessing, hidden_columns, shown_polynomials}
use Rattle.p3_fri_hiding_openings.specs.Requests.{inside}
use Rattle.p3_fri_hiding_openings.proofs.Counted.{each_datum}

module _ {X Y : Type 0} (f : X → Y) (P : Y → Type 0) where
  each_unmapped : (xs : List X) → Each P (map f xs) → Each (λ x. P (f x)) xs
  each_unmapped [] h = tt
  each_unmapped (x ∷ xs) h = (h.0, each_unmapped xs h.1)

  pub all_unmapped : (xs : List X) → All P (map f xs) → All (λ x. P (f x)) xs
  all_unmapped xs h =
      All_from_each (λ x. P (f x)) xs (each_unmapped xs (each_from_All P (map f xs) h))

module _ {F E T : Type 0} (f : Fields F E) (committed : T → List (RowMajorMatrix F))
    (log_blowup r : ℕ) where
  abbrev Outer : Type 0
  Outer = Request (HidingFriPcsProverData T) E

  abbrev shown : HidingFriPcsProverData T → List (Held E)
  shown = shown_polynomials f committed log_blowup r

  abbrev held : T → List (Held E)
  held = held_of f committed log_blowup

  as_many : (q : Outer) → length q.points ≡ length (shown q.datum)
      → length q.points ≡ length (held q.datum.inner)
  as_many q count =
      count ∙ length-map (held q.datum.inner) (shown_of (hidden_columns r q.datum))

  count_all : (requests : List Outer) → length (flat_map (λ q. shown q.datum) requests)
      ≡ length (flat_map (λ q. held q.datum) (map inside requests))
  count_all [] = refl
  count_all (q ∷ requests) =
      length-append (shown q.datum) (flat_map (λ q. shown q.datum) requests)
      ∙ ap₂ (λ m n. m + n)
      (length-map (held q.datum.inner) (shown_of (hidden_columns r q.datum)))
      (count_all requests)
      ∙ sym (length-append (held q.datum.inner)
      (flat_map (λ q. held q.datum) (map inside requests)))

  module _ (preprocessing : Option ℕ) (requests : List Outer)
      (openable : AreOpenableAt (IsUnopened f committed log_blowup r)
      (IsPreprocessing f committed log_blowup r) shown preprocessing requests) where
    -- what holds of data of both kinds holds of each request's
    pub of_data : (P : HidingFriPcsProverData T → Type 0)
        → ((d : HidingFriPcsProverData T) → IsUnopened f committed log_blowup r d → P d)
        → ((d : HidingFriPcsProverData T) → IsPreprocessing f committed log_blowup r d → P d)
        → All (λ q. P q.datum) requests
    of_data P private public =
        all_unmapped (λ (q : Outer). q.datum) P requests
        (each_datum f committed log_blowup r P private public preprocessing
        (map (λ q. q.datum) requests) openable.data_openable)

    -- the requests inside may be opened
    pub openable_inside : AreOpenable (λ d. All (HasCoset f.two_adicity) (committed d)) held
        (map inside requests)
    openable_inside = record {
      data_openable = All-map
          (λ (q : Request T E). All (HasCoset f.two_adicity) (committed q.datum))
          inside requests
          (of_data (λ d. All (HasCoset f.two_adicity) (committed d.inner))
          (λ d h. h.of_scheme.cosets) (λ d h. h.of_scheme.cosets));
      points = All-map (λ (q : Request T E). length q.points ≡ length (held q.datum)) inside
          requests (λ k q l. as_many (get_or requests k q) (openable.points k q l));
      some_matrix = λ none. openable.some_matrix
          (nil_from_length (flat_map (λ q. shown q.datum) requests)
          (count_all requests ∙ ap length none));
    }

    -- each matrix is as wide as what only hides the others
    pub wide_inside : All (λ q. All (λ m. hidden_columns r q.datum ≤ matrix_width m)
        (committed q.datum.inner)) requests
    wide_inside = of_data
        (λ d. All (λ m. hidden_columns r d ≤ matrix_width m) (committed d.inner))
        (λ d h. subst (λ (b : Bool). All (λ m. (if b then 0 else r) ≤ matrix_width m)
        (committed d.inner)) (sym h.private) h.wide)
        (λ d h. subst (λ (b : Bool). All (λ m. (if b then 0 else r) ≤ matrix_width m)
        (committed d.inner)) (sym h.public) (λ k m l. omega arith))

  pub honest_inside : (requests : List Outer)
      → AreHonest (λ d. All (HoldsWords f log_blowup) (committed d.inner)) requests
      → AreHonest (λ d. All (HoldsWords f log_blowup) (committed d)) (map inside requests)
  honest_inside requests honest = record {
    data_honest = All-map (λ (q : Request T E). All (HoldsWords f log_blowup) (committed q.datum))
        inside requests honest.data_honest;
    points = All-map (λ (q : Request T E). All (λ zs. zs ≢ []) q.points) inside requests
        honest.points;
  }
