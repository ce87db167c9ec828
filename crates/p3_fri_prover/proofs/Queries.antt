-- The chains of the queries, where each round opens the siblings that they meet.
use Rattle.std.proofs.Common.{◌≡◌, ℕ, zero, suc, ◌+◌, ◌-◌, ◌*◌, ◌/◌, ◌%◌, ◌^◌, ◌<◌, ◌≤◌, List, []}
use Rattle.std.proofs.Common.{◌∷◌, Option, length, get_or, map, take, drop, remove, sum, refl, sym, ap}
use Rattle.std.proofs.Common.{◌∙◌, arith, pow_pos, subst, length-drop, length-take-le}
use Rattle.std.specs.List.{AllZip, zip, range_with_len}
use Rattle.std.proofs.Math.Nat.{mod-lt}
use Rattle.std.proofs.lemmas.Nat.{pow-add}
use Rattle.std.proofs.lemmas.List.{get_or-map}
use Rattle.algebra.specs.Field.{FieldOps}
use Rattle.algebra.specs.Polynomial.{tabulate}
use Rattle.algebra.specs.Folds.{neighbours}
use Rattle.algebra.specs.Rounds.{Link, chain, chain_rows, rows_met, siblings_met, link_in}
use Rattle.algebra.specs.Rounds.{AreValuesMet}
use Rattle.algebra.proofs.Chains.{chain_rows_through_words}
use Rattle.algebra.proofs.FoldedWords.{row_within}
use Rattle.algebra.proofs.Lists.{tabulate-equal}
use Rattle.p3_fri_relation.specs.Setting.{RoundOpening}
use Rattle.p3_fri_relation.specs.Queries.{rounds_of, heights_after, row_indices, siblings_at}
use Rattle.p3_fri_prover.specs.Openings.{index_into}
use Rattle.p3_fri_prover.proofs.Ways.{height_before, row_index, height_lowered, index_below}
use Rattle.p3_fri_prover.proofs.Ways.{total_of_rounds, words, length_of_word, row_met_at, siblings_in}
use Rattle.p3_fri_prover.proofs.Ways.{siblings_are_met}
use Rattle.p3_field_core.proofs.IndexPowers.{index_cut}

-- a list's images, by place
pub tabulate-map : {A B : Type 0} (f : A → B) (xs : List A) (d : A) (n : ℕ) → length xs ≡ n
    → tabulate n (λ j. f (get_or xs j d)) ≡ map f xs
tabulate-map f [] d zero e = refl
tabulate-map f [] d (suc n) e = absurd (omega (arith, e))
tabulate-map f (x ∷ xs) d zero e = absurd (omega (arith, e))
tabulate-map f (x ∷ xs) d (suc n) e = ap (λ ys. f x ∷ ys) (tabulate-map f xs d n (omega (arith, e)))

-- what holds at each place of two lists, beside the place's number
pub by_place : {X Y : Type 0} (R : ℕ → X × Y → Type 0) (n i : ℕ) (xs : List X) (ys : List Y)
    → length xs ≡ n → length ys ≡ n
    → ((k : ℕ) (x : X) (y : Y) → k < n → R (i + k) (get_or xs k x, get_or ys k y))
    → AllZip R (range_with_len i n) (zip xs ys)
by_place R zero i [] [] p q each = tt
by_place R zero i [] (y ∷ ys) p q each = absurd (omega (arith, q))
by_place R zero i (x ∷ xs) ys p q each = absurd (omega (arith, p))
by_place R (suc n) i [] ys p q each = absurd (omega (arith, p))
by_place R (suc n) i (x ∷ xs) [] p q each = absurd (omega (arith, q))
by_place R (suc n) i (x ∷ xs) (y ∷ ys) p q each =
    let e : i + 0 ≡ i = omega arith in (
      subst (λ m. R m (x, y)) e (each 0 x y (omega arith)),
      by_place R n (i + 1) xs ys (omega (arith, p)) (omega (arith, q))
          (λ k a b l. let f : i + suc k ≡ i + 1 + k = omega arith in
          subst (λ m. R m (get_or xs k a, get_or ys k b)) f (each (suc k) a b (omega (arith, l)))),
    )

pub length-removed : {A : Type 0} (xs : List A) (i : ℕ) → i < length xs
    → suc (length (remove xs i)) ≡ length xs
length-removed [] i l = absurd (omega (arith, l))
length-removed (x ∷ xs) zero l = refl
length-removed (x ∷ xs) (suc i) l = ap suc (length-removed xs i (omega (arith, l)))

-- a row of a word has as many entries as the arity
pub length-row : {A : Type 0} (ys : List A) (i h a : ℕ) → length ys ≡ 2 ^ (h + a) → i < 2 ^ h
    → length (neighbours ys i a) ≡ 2 ^ a
length-row ys i h a n l =
    let count : i * 2 ^ a + 2 ^ a - i * 2 ^ a ≡ 2 ^ a = omega arith in
    let within : i * 2 ^ a + 2 ^ a ≤ length ys =
    rw (n, pow-add 2 h a) (row_within i (2 ^ h) (2 ^ a) l) in
    ap (λ m. length (take m (drop (i * 2 ^ a) ys))) count
    ∙ length-take-le (2 ^ a) (drop (i * 2 ^ a) ys) (omega (arith, within, length-drop (i * 2 ^ a) ys))

module _ {E Path : Type 0} (F : FieldOps E) (fold : ℕ → ℕ → ℕ → E → List E → E)
    (inputs : ℕ → Option (List E)) (top : ℕ) (first : List E) (arities : List ℕ) (betas : List E)
    (ps : List ℕ) (openings : List (RoundOpening E Path)) (drawn : length betas ≡ length arities)
    (whole : length first ≡ 2 ^ top) (within : sum arities ≤ top)
    (below : (j : ℕ) → j < length ps → get_or ps j 0 < 2 ^ top)
    (count : length openings ≡ length arities)
    (each : (k : ℕ) (o : RoundOpening E Path) → k < length arities
    → (get_or openings k o).siblings
    ≡ map (λ q. siblings_in F fold inputs arities betas top first q k) ps) where
  -- the siblings of the `j`-th query are those that it meets
  siblings_of_query : (j : ℕ) → j < length ps
      → siblings_at j openings
      ≡ siblings_met (rounds_of arities betas) (words F fold inputs arities betas top first)
      (get_or ps j 0)
  siblings_of_query j l =
      siblings_are_met F fold inputs arities betas top first (get_or ps j 0) j openings drawn count
      (λ k o m. ap (λ xs. get_or xs j []) (each k o m)
      ∙ get_or-map (λ q. siblings_in F fold inputs arities betas top first q k) ps j 0 [] l)

  -- its rows are those of the words
  pub rows_of_query : (values : ℕ → Option E) (j : ℕ) → j < length ps
      → AreValuesMet F inputs top (get_or ps j 0) values
      → chain_rows F fold values (rounds_of arities betas) (siblings_at j openings)
      (link_in F top first (get_or ps j 0))
      ≡ rows_met (rounds_of arities betas) (words F fold inputs arities betas top first)
      (get_or ps j 0)
  rows_of_query values j l met =
      ap (λ sets. chain_rows F fold values (rounds_of arities betas) sets
      (link_in F top first (get_or ps j 0))) (siblings_of_query j l)
      ∙ chain_rows_through_words F fold inputs values top (rounds_of arities betas) first
      (get_or ps j 0) whole (omega (arith, within, total_of_rounds arities betas drawn)) (below j l)
      met

  -- and its last link, whatever it is for the siblings that it meets
  pub link_of_query : (values : ℕ → Option E) (j : ℕ) (link : Link E) → j < length ps
      → chain F fold values (rounds_of arities betas)
      (siblings_met (rounds_of arities betas) (words F fold inputs arities betas top first)
      (get_or ps j 0)) (link_in F top first (get_or ps j 0)) ≡ link
      → chain F fold values (rounds_of arities betas) (siblings_at j openings)
      (link_in F top first (get_or ps j 0)) ≡ link
  link_of_query values j link l e =
      ap (λ sets. chain F fold values (rounds_of arities betas) sets
      (link_in F top first (get_or ps j 0))) (siblings_of_query j l) ∙ e

  -- in round `k` they are, by query, the rows in which the indices lie
  pub rows_by_query : (values : ℕ → ℕ → Option E) (k n : ℕ) → k < length arities → length ps ≡ n
      → ((q : ℕ) → AreValuesMet F inputs top q (values q))
      → tabulate n (λ j. get_or (chain_rows F fold (values (get_or ps j 0))
      (rounds_of arities betas) (siblings_at j openings) (link_in F top first (get_or ps j 0))) k []
      ∷ [])
      ≡ map (λ q. neighbours (get_or (words F fold inputs arities betas top first) k [])
      (get_or (row_indices arities q) k 0) (get_or arities k 0) ∷ []) ps
  rows_by_query values k n l e met =
      tabulate-equal n
      (λ j. get_or (chain_rows F fold (values (get_or ps j 0)) (rounds_of arities betas)
      (siblings_at j openings) (link_in F top first (get_or ps j 0))) k [] ∷ [])
      (λ j. row_opened (get_or ps j 0))
      (λ j m. ap (λ row. row ∷ [])
      (ap (λ rows. get_or rows k [])
      (rows_of_query (values (get_or ps j 0)) j (omega (arith, m, e)) (met (get_or ps j 0)))
      ∙ row_met_at F fold inputs arities betas top first (get_or ps j 0) k drawn l
      ∙ ap (λ i. neighbours (get_or (words F fold inputs arities betas top first) k []) i
      (get_or arities k 0)) (sym (row_index arities (get_or ps j 0) k l))))
      ∙ tabulate-map row_opened ps 0 n e
    where
      row_opened : ℕ → List (List E)
      row_opened q = neighbours (get_or (words F fold inputs arities betas top first) k [])
          (get_or (row_indices arities q) k 0) (get_or arities k 0) ∷ []

  -- the rows without the queries' own entries have one entry less than the arity
  pub length-siblings : (k q : ℕ) → k < length arities → q < 2 ^ top
      → suc (length (siblings_in F fold inputs arities betas top first q k))
      ≡ 2 ^ get_or arities k 0
  length-siblings k q l b =
      let a = get_or arities k 0 in
      let i = index_into arities q k in
      let h = get_or (heights_after arities top) k 0 in
      let word = get_or (words F fold inputs arities betas top first) k [] in
      let lowered : h + a ≡ height_before arities top k = height_lowered arities top k within l in
      let n : length word ≡ 2 ^ (h + a) =
      length_of_word F fold inputs arities betas top first k drawn whole l
      ∙ ap (λ m. 2 ^ m) (sym lowered) in
      let i_below : i < 2 ^ (h + a) =
      subst (λ m. i < 2 ^ m) (sym lowered)
      (index_below arities top q k within b (omega (arith, l))) in
      let row : i / 2 ^ a < 2 ^ h =
      (let e : h + a - a ≡ h = omega arith in
      subst (λ m. i / 2 ^ a < 2 ^ m) e (index_cut i (h + a) a i_below (omega arith))) in
      let size : length (neighbours word (i / 2 ^ a) a) ≡ 2 ^ a =
      length-row word (i / 2 ^ a) h a n row in
      length-removed (neighbours word (i / 2 ^ a) a) (i % 2 ^ a)
      (rw size (mod-lt i (pow_pos a))) ∙ size
