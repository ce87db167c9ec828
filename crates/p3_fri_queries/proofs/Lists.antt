-- Rows that a query has, and lists that gain.
use Rattle.std.proofs.Common.{◌≡◌, ℕ, zero, suc, ◌+◌, ◌<◌, ◌≤◌, min, arith}
use Rattle.std.proofs.Common.{List, [], ◌∷◌, ◌++◌, length, map, drop, take, get_or, refl, ap, ◌∙◌, sym, subst, add-one}
use Rattle.std.specs.Prelude.{slice_set}
use Rattle.std.proofs.lemmas.List.{get_or-map, length-map}
use Rattle.p3_fri_relation.specs.FoldedQuery.{AreInRange, HasRow, HaveRows, gains}

have_none : (E : Type 0) (j : ℕ) (log_arities : List ℕ) → HaveRows {E = E} j log_arities []
have_none E j [] = tt
have_none E j (a ∷ log_arities) = tt

-- past the end of one of the lists nothing is left to have
pub have_end : {E O : Type 0} (f : O → List (List E)) (j k : ℕ) (log_arities : List ℕ) (os : List O)
    → min (length log_arities) (length os) ≤ k → HaveRows j (drop k log_arities) (map f (drop k os))
have_end f j zero [] os h = tt
have_end f j zero (a ∷ log_arities) [] h = tt
have_end f j zero (a ∷ log_arities) (o ∷ os) h = absurd (omega arith)
have_end f j (suc k) [] os h = tt
have_end f j (suc k) (a ∷ log_arities) [] h = have_none _ j (drop k log_arities)
have_end f j (suc k) (a ∷ log_arities) (o ∷ os) h = have_end f j k log_arities os (omega arith)

-- of rounds that all have rows each has one
pub has_at : {E : Type 0} (j k : ℕ) (log_arities : List ℕ) (siblings : List (List (List E)))
    → HaveRows j log_arities siblings → k < length log_arities → k < length siblings
    → HasRow j (get_or log_arities k 0) (get_or siblings k [])
has_at j k [] siblings h l₁ l₂ = absurd (omega arith)
has_at j k (a ∷ log_arities) [] h l₁ l₂ = absurd (omega arith)
has_at j zero (a ∷ log_arities) (rows ∷ siblings) h l₁ l₂ = h.0
has_at j (suc k) (a ∷ log_arities) (rows ∷ siblings) h l₁ l₂ =
    has_at j k log_arities siblings h.1 (omega arith) (omega arith)

-- the row of a round that was read
pub row_at : {E O : Type 0} (f : O → List (List E)) (j k : ℕ) (log_arities : List ℕ) (os : List O) (o : O)
    → HaveRows j log_arities (map f os) → k < length log_arities → k < length os → o ≡ get_or os k o
    → HasRow j (get_or log_arities k 0) (f o)
row_at {E} f j k log_arities os o h l₁ l₂ is =
    let l₃ : k < length (map f os) = rw (length-map os f) l₂ in
    subst (λ (rows : List (List E)). HasRow j (get_or log_arities k 0) rows)
    (get_or-map f os k o [] l₂ ∙ ap f (sym is)) (has_at j k log_arities (map f os) h l₁ l₃)

pub in_range_at : (k : ℕ) (log_arities : List ℕ) → AreInRange log_arities → k < length log_arities
    → (0 < get_or log_arities k 0) × (get_or log_arities k 0 < 64)
in_range_at k [] h l = absurd (omega arith)
in_range_at zero (a ∷ log_arities) h l = (h.0, h.1)
in_range_at (suc k) (a ∷ log_arities) h l = in_range_at k log_arities h.2 (omega arith)

-- of fewer rounds
pub range_take : (n : ℕ) (log_arities : List ℕ) → AreInRange log_arities → AreInRange (take n log_arities)
range_take zero [] h = tt
range_take zero (a ∷ log_arities) h = tt
range_take (suc n) [] h = tt
range_take (suc n) (a ∷ log_arities) h = (h.0, h.1, range_take n log_arities h.2)

pub have_take : {E : Type 0} (j n : ℕ) (log_arities : List ℕ) (siblings : List (List (List E)))
    → HaveRows j log_arities siblings → HaveRows j (take n log_arities) siblings
have_take j zero [] siblings h = tt
have_take j zero (a ∷ log_arities) siblings h = tt
have_take j (suc n) [] siblings h = tt
have_take j (suc n) (a ∷ log_arities) [] h = tt
have_take j (suc n) (a ∷ log_arities) (rows ∷ siblings) h = (h.0, have_take j n log_arities siblings h.1)

-- what the query has in a round that was read
pub siblings_at : {E O : Type 0} (f : O → List (List E)) (j k : ℕ) (os : List O) (o : O)
    → k < length os → o ≡ get_or os k o
    → (k < length (map (λ rows. get_or rows j []) (map f os)))
    × (get_or (f o) j [] ≡ get_or (map (λ rows. get_or rows j []) (map f os)) k [])
siblings_at f j k [] o l is = absurd (omega arith)
siblings_at f j zero (x ∷ os) o l is = (omega arith, rw is refl)
siblings_at f j (suc k) (x ∷ os) o l is =
    let more = siblings_at f j k os o (omega arith) is in
    (omega (arith, more.0), more.1)

-- lists of which those from the `k`-th on gain
abbrev pub gains_from : {A : Type 0} → (k : ℕ) (lists : List (List A)) (gained : List A) → List (List A)
gains_from zero lists gained = gains lists gained
gains_from (suc k) [] gained = []
gains_from (suc k) (xs ∷ lists) gained = xs ∷ gains_from k lists gained

gain_step : {A : Type 0} (k : ℕ) (lists : List (List A)) (x : A) (gained : List A)
    → k < length lists
    → gains_from (suc k) (slice_set lists k (get_or lists k [] ++ x ∷ [])) gained ≡ gains_from k lists (x ∷ gained)
gain_step k [] x gained l = absurd (omega arith)
gain_step zero (xs ∷ lists) x gained l = refl
gain_step {A} (suc k) (xs ∷ lists) x gained l =
    ap (λ (ls : List (List A)). xs ∷ ls) (gain_step k lists x gained (omega arith))

pub gain_end : {A : Type 0} (k : ℕ) (lists : List (List A)) → gains_from k lists [] ≡ lists
gain_end zero [] = refl
gain_end zero (xs ∷ lists) = refl
gain_end (suc k) [] = refl
gain_end {A} (suc k) (xs ∷ lists) = ap (λ (ls : List (List A)). xs ∷ ls) (gain_end k lists)

-- the `k`-th gains, and it is left to those after it
pub gained : {A : Type 0} (k : ℕ) (old new : List (List A)) (x : A) (xs all : List A)
    → k < length old → new ≡ slice_set old k (get_or old k [] ++ x ∷ []) → x ∷ xs ≡ all
    → gains_from (k + 1) new xs ≡ gains_from k old all
gained {A} k old new x xs all l e f =
    ap (λ (lists : List (List A)). gains_from (k + 1) lists xs) e
    ∙ rw add-one (gain_step k old x xs l) ∙ ap (λ (more : List A). gains_from k old more) f

-- where nothing is left, all has been gained
pub gained_all : {A : Type 0} (k : ℕ) (new old : List (List A)) (left all : List A)
    → left ≡ [] → gains_from k new left ≡ gains_from 0 old all → new ≡ gains old all
gained_all {A} k new old left all e h =
    sym (gain_end k new) ∙ ap (λ (more : List A). gains_from k new more) (sym e) ∙ h

-- a list that one list gains
pub set_map : {A B : Type 0} (f : A → List B) (xs : List A) (i : ℕ) (v d : A) (more : List B)
    → i < length xs → f v ≡ f (get_or xs i d) ++ more
    → map f (slice_set xs i v) ≡ slice_set (map f xs) i (get_or (map f xs) i [] ++ more)
set_map f [] i v d more h e = absurd (omega arith)
set_map {A} {B} f (x ∷ xs) zero v d more h e = ap (λ (w : List B). w ∷ map f xs) e
set_map {A} {B} f (x ∷ xs) (suc i) v d more h e =
    ap (λ (w : List (List B)). f x ∷ w) (set_map f xs i v d more (omega arith) e)
