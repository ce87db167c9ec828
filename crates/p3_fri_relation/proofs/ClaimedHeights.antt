-- The log heights of claimed matrices: the greatest bounds each and is one of them, and the list of
-- them falls strictly from it and has exactly those that some matrix has.
use Rattle.std.proofs.Common.{◌≡◌, ◌≢◌, ℕ, zero, suc, ◌+◌, ◌≤◌, max, inl, inr, List}
use Rattle.std.proofs.Common.{[], ◌∷◌, ◌++◌, Bool, true, false}
use Rattle.std.proofs.Common.{eqb, refl, sym, arith, if◌then◌else◌, ◌⊎◌}
use Rattle.std.specs.List.{All, Any, fold}
use Rattle.std.proofs.lemmas.Bool.{eqb-true, eq-eqb}
use Rattle.std.proofs.lemmas.Bool.Decides.{leb_tells}
use Rattle.std.proofs.lemmas.List.Elements.{All-nil, All-cons, All-head}
use Rattle.std.proofs.lemmas.List.Folds.{Any-from_list_any, list_any-from_Any}
use Rattle.p3_fri_folding.specs.Schedule.{IsStrictlyFalling, tallest}
use Rattle.p3_fri_folding.proofs.Rounds.{FallsFrom}
use Rattle.p3_fri_folding.proofs.Fewest.{falls_from_higher}
use Rattle.p3_fri_relation.specs.Setting.{MatrixClaim}
use Rattle.p3_fri_relation.specs.Heights.{log_height, greatest_height, has_height, heights_below}
use Rattle.p3_fri_relation.specs.Heights.{heights_of}

-- the greatest of some numbers, from one on
module _ {X : Type 0} (f : X → ℕ) where
  abbrev greatest : ℕ → List X → ℕ
  greatest a xs = fold (λ h x. max h (f x)) a xs

  greatest-from : (a : ℕ) (xs : List X) → a ≤ greatest a xs
  greatest-from a [] = omega arith
  greatest-from a (x ∷ xs) = let later = greatest-from (max a (f x)) xs in omega arith

  greatest-bounds : (a : ℕ) (xs : List X) → All (λ x. f x ≤ greatest a xs) xs
  greatest-bounds a [] = All-nil (λ x. f x ≤ a)
  greatest-bounds a (x ∷ xs) =
      All-cons (λ y. f y ≤ greatest a (x ∷ xs)) x xs
      (let later = greatest-from (max a (f x)) xs in omega arith)
      (greatest-bounds (max a (f x)) xs)

  some_later : (P : X → Type 0) (x : X) (xs : List X) → Any P xs → Any P (x ∷ xs)
  some_later P x xs some = (suc some.0, some.1, omega (arith, some.2), some.3, some.4)

  greatest-reached : (a : ℕ) (xs : List X)
      → (greatest a xs ≡ a) ⊎ Any (λ x. f x ≡ greatest a xs) xs
  greatest-reached a [] = inl refl
  greatest-reached a (x ∷ xs) = elim (greatest-reached (max a (f x)) xs) [
    | inl same ↦ elim (leb_tells (f x) a) [
      | inl w ↦ inl (let e = same in let low = w.1 in omega arith)
      | inr w ↦ inr (0, x, omega arith, refl, (let e = same in let high = w.1 in omega arith))
    ]
    | inr some ↦ inr (some_later (λ y. f y ≡ greatest a (x ∷ xs)) x xs some)
  ]

-- lists of numbers that fall

pub strictly_falling : (top : ℕ) (hs : List ℕ) → FallsFrom top hs → IsStrictlyFalling hs
strictly_falling top [] falls k within = absurd (omega arith)
strictly_falling top (h ∷ []) falls k within = absurd (omega arith)
strictly_falling top (h ∷ g ∷ hs) falls zero within = falls.1.0
strictly_falling top (h ∷ g ∷ hs) falls (suc k) within =
    let next : suc k + 1 ≡ suc (k + 1) = omega arith in
    rw next (strictly_falling h (g ∷ hs) falls.1 k (omega (arith, within)))

module _ (b : ℕ) {E : Type 0} (ms : List (MatrixClaim E)) where
  -- the greatest log height bounds each, and is one where there are matrices
  pub greatest_height-bounds : All (λ m. log_height b m ≤ greatest_height b ms) ms
  greatest_height-bounds = greatest-bounds (log_height b) 0 ms

  -- a log height is one of theirs where some matrix has it
  pub has_height-from : (h : ℕ) → Any (λ m. log_height b m ≡ h) ms → has_height b ms h ≡ true
  has_height-from h some = list_any-from_Any (λ m. eqb (log_height b m) h) ms
      (some.0, some.1, some.2, some.3, eq-eqb (log_height b some.1) h some.4)

  pub some_has_height : (h : ℕ) → has_height b ms h ≡ true → Any (λ m. log_height b m ≡ h) ms
  some_has_height h is_one =
      let some = Any-from_list_any (λ m. eqb (log_height b m) h) ms is_one in
      (some.0, some.1, some.2, some.3, eqb-true (log_height b some.1) h some.4)

  pub has_height-greatest : ms ≢ [] → has_height b ms (greatest_height b ms) ≡ true
  has_height-greatest some = has_height-from (greatest_height b ms) (reached ms refl (greatest-reached (log_height b) 0 ms))
    where
      reached : (xs : List (MatrixClaim E)) → xs ≡ ms → (greatest_height b xs ≡ 0) ⊎ Any (λ m. log_height b m ≡ greatest_height b xs) xs
          → Any (λ m. log_height b m ≡ greatest_height b ms) ms
      reached [] none which = absurd (some (sym none))
      reached (x ∷ xs) same which = rw (← same) (elim which [
        | inl low ↦ (0, x, omega arith, refl, (let all = All-head (λ m. log_height b m ≤ greatest_height b (x ∷ xs)) x xs (greatest-bounds (log_height b) 0 (x ∷ xs)) in let e = low in omega arith))
        | inr found ↦ found
      ])

  -- a log height of theirs isn't above the greatest
  pub has_height-bound : (h : ℕ) → has_height b ms h ≡ true → h ≤ greatest_height b ms
  has_height-bound h is_one =
      let some = some_has_height h is_one in
      let bound = greatest_height-bounds some.0 some.1 some.2 in
      let read = some.3 in
      let same = some.4 in
      let moved : log_height b some.1 ≤ greatest_height b ms = rw read at bound in
      omega arith

  -- the list of the log heights below a number
  pub heights_below-fall : (n : ℕ) → FallsFrom n (heights_below b ms n)
  heights_below-fall zero = tt
  heights_below-fall (suc n) = step (heights_below b ms n) (heights_below-fall n) (has_height b ms n)
    where
      step : (hs : List ℕ) → FallsFrom n hs → (is_one : Bool) → FallsFrom (suc n) ((if is_one then n ∷ [] else []) ++ hs)
      step hs falls true = (omega arith, falls)
      step hs falls false = falls_from_higher n (suc n) hs (omega arith) falls

  -- some matrix has each of them
  pub heights_below-had : (n : ℕ) → All (λ h. has_height b ms h ≡ true) (heights_below b ms n)
  heights_below-had zero = All-nil (λ h. has_height b ms h ≡ true)
  heights_below-had (suc n) = step (heights_below b ms n) (heights_below-had n) (has_height b ms n) refl
    where
      step : (hs : List ℕ) → All (λ h. has_height b ms h ≡ true) hs → (is_one : Bool) → has_height b ms n ≡ is_one
          → All (λ h. has_height b ms h ≡ true) ((if is_one then n ∷ [] else []) ++ hs)
      step hs had true e = All-cons (λ h. has_height b ms h ≡ true) n hs e had
      step hs had false e = had

  -- the list of all of them begins with the greatest
  pub heights_of-first : ms ≢ [] → heights_of b ms ≡ greatest_height b ms ∷ heights_below b ms (greatest_height b ms)
  heights_of-first some = rw (has_height-greatest some) refl

  pub heights_of-falling : IsStrictlyFalling (heights_of b ms)
  heights_of-falling = strictly_falling (suc (greatest_height b ms)) (heights_of b ms) (heights_below-fall (suc (greatest_height b ms)))

  pub heights_of-tallest : tallest (heights_of b ms) ≡ greatest_height b ms
  heights_of-tallest = by_claims ms refl
    where
      by_claims : (xs : List (MatrixClaim E)) → xs ≡ ms → tallest (heights_of b ms) ≡ greatest_height b ms
      by_claims [] e = rw (← e) refl
      by_claims (x ∷ xs) e = rw (heights_of-first (λ none. absurd (cc))) refl
