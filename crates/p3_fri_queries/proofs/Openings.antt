-- The rounds' openings, from what is read of each round.
use Rattle.std.proofs.Common.{◌≡◌, ℕ, ◌^◌, ◌<◌, List, [], ◌∷◌, length, map, get_or, refl, sym, ap}
use Rattle.std.proofs.Common.{ap₂, ◌∙◌, subst, zero-add, arith}
use Rattle.std.specs.List.{Any, zip, range_with_len}
use Rattle.std.proofs.lemmas.List.{length-map, get_or-map, get_or_read_under}
use Rattle.std.proofs.lemmas.Slice.Zip.{length-zip, get_or-zip}
use Rattle.std.proofs.lemmas.List.FromFn.{length-range_with_len, get_or-range_with_len}
use Rattle.p3_fri_relation.specs.Setting.{Opening, RoundOpening}
use Rattle.p3_fri_relation.specs.Queries.{heights_after}
use Rattle.p3_fri_relation.proofs.ZippedLists.{numbered-from, numbered-at}
use Rattle.p3_fri_queries.specs.Opened.{OpensRoundTo, RoundsOpenTo, SomeRoundFails}

-- one number is the place of an element of which it doesn't hold
some_else : {A : Type 0} (P : ℕ → A → Type 0) (n : ℕ) (xs : List A) (k : ℕ) (x : A)
    → length xs ≡ n → k < n → x ≡ get_or xs k x → ¬ P k x
    → Any (λ (i, y). ¬ P i y) (zip (range_with_len 0 n) xs)
some_else {A} P n xs k x e l is h =
    let l₁ : k < length (range_with_len 0 n) = omega (arith, length-range_with_len 0 n) in
    let l₂ : k < length xs = omega arith in (
      k,
      (k, x),
      omega (arith, length-zip (range_with_len 0 n) xs),
      get_or-zip (range_with_len 0 n) xs k (k, x) l₁ l₂
          ∙ ap (λ (i : ℕ). (i, get_or xs k x)) (get_or-range_with_len 0 n k k l ∙ zero-add k)
          ∙ ap (λ (y : A). (k, y)) (sym is),
      h,
    )

-- the pair at a place of two lists
pair_at : {A B C : Type 0} (f : B → C) (xs : List A) (ys : List B) (k : ℕ) (x : A) (y : B)
    (d : A × C) → k < length xs → k < length ys → x ≡ get_or xs k x → y ≡ get_or ys k y
    → get_or (zip xs (map f ys)) k d ≡ (x, f y)
pair_at {A} {B} {C} f xs ys k x y d l m e g =
    let n : k < length (map f ys) = omega (arith, length-map ys f) in
    get_or-zip xs (map f ys) k d l n
    ∙ ap₂ (λ (a : A) (b : C). (a, b)) (sym (get_or_read_under xs k (length xs) x d.0 e l refl))
    (get_or-map f ys k y d.1 m ∙ ap f (sym g))

-- the rounds, one after another: commitments, and openings that are seen as `view` says
module _ {E Com Path O : Type 0} (opens : Opening E Com Path) (log_arities : List ℕ)
    (log_height : ℕ) (indices : List (List ℕ)) (rows : List (List (List (List E))))
    (commitments : List Com) (view : O → RoundOpening E Path) (openings : List O) where
  abbrev pub OpensAt : ℕ → Type 0
  OpensAt k = (x : Com) (r : RoundOpening E Path) → get_or commitments k x ≡ x
      → get_or (map view openings) k r ≡ r
      → OpensRoundTo opens log_arities log_height indices rows k (x, r)

  pub rounds_all : length commitments ≡ length log_arities → length openings ≡ length log_arities
      → ((k : ℕ) → k < length log_arities → OpensAt k)
      → RoundsOpenTo opens log_arities log_height indices rows commitments (map view openings)
  rounds_all e f all =
      numbered-from (OpensRoundTo opens log_arities log_height indices rows) 0 (length log_arities)
      commitments (map view openings) e (length-map openings view ∙ f)
      (λ k x r l is_x is_r.
      subst (λ (i : ℕ). OpensRoundTo opens log_arities log_height indices rows i (x, r))
      (sym (zero-add k)) (all k l x r is_x is_r))

  -- what is read of round `k`
  pub record IsRead (k : ℕ) (commitment : Com) (opening : O) (log_arity height : ℕ) (is : List ℕ)
      (sets : List (List (List E))) : Type 0 where
    pub count_commitments : length commitments ≡ length log_arities
    pub count_openings : length openings ≡ length log_arities
    pub below : k < length log_arities
    pub commitment_is : commitment ≡ get_or commitments k commitment
    pub opening_is : opening ≡ get_or openings k opening
    pub log_arity_is : log_arity ≡ get_or log_arities k 0
    pub height_is : height ≡ get_or (heights_after log_arities log_height) k 0
    pub indices_are : is ≡ get_or indices k []
    pub sets_are : sets ≡ get_or rows k []

-- a round, by what is read of it
module _ {E Com Path O : Type 0} {opens : Opening E Com Path} {log_arities : List ℕ}
    {log_height : ℕ} {indices : List (List ℕ)} {rows : List (List (List (List E)))}
    {commitments : List Com} {view : O → RoundOpening E Path} {openings : List O} {k : ℕ}
    {commitment : Com} {opening : O} {log_arity height : ℕ} {is : List ℕ}
    {sets : List (List (List E))}
    (read : IsRead opens log_arities log_height indices rows commitments view openings k commitment
    opening log_arity height is sets) where
  abbrev Opens : Type 0
  Opens = opens commitment (record { width = 2 ^ log_arity; height = 2 ^ height } ∷ []) is sets
      (view opening).path

  abbrev OpensTo : ℕ → Com × RoundOpening E Path → Type 0
  OpensTo = OpensRoundTo opens log_arities log_height indices rows

  opening_read : (r : RoundOpening E Path) → get_or (map view openings) k r ≡ view opening
  opening_read r =
      get_or-map view openings k opening r (omega (arith, read.below, read.count_openings))
      ∙ ap view (sym read.opening_is)

  pub opens_read : Opens
      → OpensAt opens log_arities log_height indices rows commitments view openings k
  opens_read o x r is_x is_r =
      let e₁ = read.log_arity_is in
      let e₂ = read.height_is in
      let e₃ = read.indices_are in
      let e₄ = read.sets_are in
      let same_x : commitment ≡ x =
      get_or_read_under commitments k (length commitments) commitment x read.commitment_is
      (omega (arith, read.below, read.count_commitments)) refl ∙ is_x in
      let same_r : view opening ≡ r = sym (opening_read r) ∙ is_r in
      subst (λ (p : Com × RoundOpening E Path). OpensTo k p)
      (ap₂ (λ (y : Com) (t : RoundOpening E Path). (y, t)) same_x same_r)
      (rw (e₁, e₂, e₃, e₄) at o)

  read_opens : OpensTo k (commitment, view opening) → Opens
  read_opens o =
      let e₁ = read.log_arity_is in
      let e₂ = read.height_is in
      let e₃ = read.indices_are in
      let e₄ = read.sets_are in
      rw (e₁, e₂, e₃, e₄) o

  pub rounds_none : ¬ Opens
      → ¬ RoundsOpenTo opens log_arities log_height indices rows commitments (map view openings)
  rounds_none closed all = closed (read_opens
      (subst (λ (i : ℕ). OpensTo i (commitment, view opening)) (zero-add k)
      (numbered-at OpensTo 0 (length log_arities) commitments (map view openings) k commitment
      (view opening) all read.below (sym read.commitment_is) (opening_read (view opening)))))

  pub round_fails : ¬ Opens
      → SomeRoundFails opens log_arities log_height indices rows commitments (map view openings)
  round_fails closed =
      some_else OpensTo (length log_arities) (zip commitments (map view openings)) k
      (commitment, view opening)
      (length-zip commitments (map view openings)
      ∙ omega (arith, read.count_commitments, read.count_openings, length-map openings view))
      read.below
      (sym (pair_at view commitments openings k commitment opening (commitment, view opening)
      (omega (arith, read.below, read.count_commitments))
      (omega (arith, read.below, read.count_openings)) read.commitment_is read.opening_is))
      (λ o. closed (read_opens o))
