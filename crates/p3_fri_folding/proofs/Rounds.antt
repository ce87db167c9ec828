-- One round, of the least of the cap and the distances to the stops, is the head of the schedule.
use Rattle.std.proofs.Common.{◌≡◌, ◌≢◌, ℕ, suc, ◌+◌, ◌-◌, ◌/◌, ◌<◌, ◌≤◌, inl, inr, min, List, []}
use Rattle.std.proofs.Common.{◌∷◌, ◌++◌, Option, Some, None, IfSome, IfNone, slice_get, drop}
use Rattle.std.proofs.Common.{filter, nat_lt, refl, sym, ap, ◌∙◌, subst, arith, add-one}
use Rattle.std.proofs.Math.Nat.{div-eq-sub-div, mod-eq-sub-mod, div-eq_of_lt, mod-eq_of_lt}
use Rattle.std.proofs.Math.Nat.{zero-div, zero-mod, min-eq_left}
use Rattle.std.proofs.lemmas.Bool.Decides.{nat_tests, leb_tells}
use Rattle.std.proofs.lemmas.Bool.{ne_eqb}
use Rattle.p3_fri_folding.specs.Schedule.{IsStrictlyFalling, stops, rounds_over, rounds_through}
use Rattle.p3_fri_folding.specs.Schedule.{schedule}

-- each height is below the one before it, and the first below `top`
abbrev pub FallsFrom : (top : ℕ) (further : List ℕ) → Type 0
FallsFrom top [] = Unit
FallsFrom top (h ∷ hs) = (h < top) × FallsFrom h hs

pub falls_from : (top : ℕ) (further : List ℕ) → IsStrictlyFalling (top ∷ further) → FallsFrom top further
falls_from top [] falling = tt
falls_from top (h ∷ hs) falling = (falling 0 (omega arith), falls_from h hs later)
  where
    later : IsStrictlyFalling (h ∷ hs)
    later k within = let next : suc k + 1 ≡ suc (k + 1) = omega arith in rw next at (falling (suc k) (omega (arith, within)))

-- the stops after the tallest height
abbrev pub stops_below : (further : List ℕ) (final : ℕ) → List ℕ
stops_below further final = filter (nat_lt final) further ++ final ∷ []

-- a height above the final one is a stop
pub stops_below-above : (h : ℕ) (hs : List ℕ) (final : ℕ) → final < h → stops_below (h ∷ hs) final ≡ h ∷ stops_below hs final
stops_below-above h hs final above = grind (arith, nat_tests)

-- one at or below it is none
pub stops_below-low : (h : ℕ) (hs : List ℕ) (final : ℕ) → h ≤ final → stops_below (h ∷ hs) final ≡ stops_below hs final
stops_below-low h hs final low = grind (arith, nat_tests)

-- heights below a low one are no stops either
stops_below-all_low : (top : ℕ) (further : List ℕ) (final : ℕ) → FallsFrom top further → top ≤ final + 1 → stops_below further final ≡ final ∷ []
stops_below-all_low top [] final falls low = refl
stops_below-all_low top (h ∷ hs) final falls low =
    stops_below-low h hs final (omega (arith, falls.0)) ∙ stops_below-all_low h hs final falls.1 (omega (arith, falls.0))

-- the rounds over one distance

rounds_over-zero : (cap : ℕ) → rounds_over 0 cap ≡ []
unfolding rounds_over
rounds_over-zero cap = rw (zero-div cap, zero-mod cap) refl

rounds_over-long : (distance cap : ℕ) → 0 < cap → cap ≤ distance → rounds_over distance cap ≡ cap ∷ rounds_over (distance - cap) cap
unfolding rounds_over
rounds_over-long distance cap positive long =
    rw (div-eq-sub-div {m = cap} {n = distance} positive long, mod-eq-sub-mod {n = distance} {m = cap} long, add-one ((distance - cap) / cap)) refl

rounds_over-short : (distance cap : ℕ) → 0 < distance → distance < cap → rounds_over distance cap ≡ distance ∷ []
unfolding rounds_over
rounds_over-short distance cap far short = rw (div-eq_of_lt short, mod-eq_of_lt short, ne_eqb distance 0 (λ none. omega arith)) refl

-- the first round over a distance
rounds_over-step : (distance cap : ℕ) → 0 < cap → 0 < distance → rounds_over distance cap ≡ min cap distance ∷ rounds_over (distance - min cap distance) cap
rounds_over-step distance cap positive far = elim (leb_tells cap distance) [ inl w ↦ long w.1 | inr w ↦ short w.1 ]
  where
    long : cap ≤ distance → rounds_over distance cap ≡ min cap distance ∷ rounds_over (distance - min cap distance) cap
    long within = rw (min-eq_left {n = cap} {m = distance} within) (rounds_over-long distance cap positive within)

    short : distance < cap → rounds_over distance cap ≡ min cap distance ∷ rounds_over (distance - min cap distance) cap
    short beyond =
        let all : min cap distance ≡ distance = omega arith in
        let none : distance - distance ≡ 0 = omega arith in
        rw (all, none, rounds_over-zero cap) (rounds_over-short distance cap far beyond)

-- the rounds through the stops

-- the first round towards the next stop
rounds_through-step : (from stop : ℕ) (later : List ℕ) (cap a : ℕ) → 0 < cap → stop < from → a ≡ min cap (from - stop)
    → rounds_through (from ∷ stop ∷ later) cap ≡ a ∷ rounds_through ((from - a) ∷ stop ∷ later) cap
unfolding rounds_through
rounds_through-step from stop later cap a positive far is_least =
    let left : from - stop - a ≡ from - a - stop = omega arith in
    rw (rounds_over-step (from - stop) cap positive (omega arith), ← is_least, left) refl

-- at the next stop
rounds_through-there : (here : ℕ) (later : List ℕ) (cap : ℕ) → rounds_through (here ∷ here ∷ later) cap ≡ rounds_through (here ∷ later) cap
unfolding rounds_through
rounds_through-there here later cap =
    let none : here - here ≡ 0 = omega arith in
    rw (none, rounds_over-zero cap) refl

-- at the last stop
rounds_through-last : (stop cap : ℕ) → rounds_through (stop ∷ []) cap ≡ []
unfolding rounds_through
rounds_through-last stop cap = refl

-- a height that is reached is no further stop
rounds_through-reached : (h : ℕ) (hs : List ℕ) (final cap : ℕ) → rounds_through (h ∷ stops_below (h ∷ hs) final) cap ≡ rounds_through (h ∷ stops_below hs final) cap
rounds_through-reached h hs final cap = elim (leb_tells h final) [
  | inl w ↦ rw (stops_below-low h hs final w.1) refl
  | inr w ↦ rw (stops_below-above h hs final w.1) (rounds_through-there h (stops_below hs final) cap)
]

-- the schedule, by cases

pub schedule-nil : (final cap : ℕ) → schedule [] final cap ≡ []
unfolding schedule
schedule-nil final cap = refl

pub schedule-low : (top : ℕ) (further : List ℕ) (final cap : ℕ) → top ≤ final → schedule (top ∷ further) final cap ≡ []
unfolding schedule
schedule-low top further final cap low = grind (arith, nat_tests)

pub schedule-above : (top : ℕ) (further : List ℕ) (final cap : ℕ) → final < top → schedule (top ∷ further) final cap ≡ rounds_through (top ∷ stops_below further final) cap
unfolding schedule stops
schedule-above top further final cap above = grind (arith, nat_tests)

-- also at the final height the schedule is the rounds through the stops
schedule-from : (top : ℕ) (further : List ℕ) (final cap : ℕ) → FallsFrom top further → final ≤ top → schedule (top ∷ further) final cap ≡ rounds_through (top ∷ stops_below further final) cap
schedule-from top further final cap falls within = elim (leb_tells top final) [ inl w ↦ at_final w.1 | inr w ↦ schedule-above top further final cap w.1 ]
  where
    at_final : top ≤ final → schedule (top ∷ further) final cap ≡ rounds_through (top ∷ stops_below further final) cap
    at_final low =
        let same : final ≡ top = omega arith in
        schedule-low top further final cap low
        ∙ rw (stops_below-all_low top further final falls (omega arith), same, rounds_through-there top [] cap, rounds_through-last top cap) refl

-- one round

-- the least of the cap and the distances to the final height and to the next one
abbrev least : (top : ℕ) (further : List ℕ) (final cap : ℕ) → ℕ
least top [] final cap = min cap (top - final)
least top (h ∷ hs) final cap = min cap (min (top - final) (top - h))

least-le : (top : ℕ) (further : List ℕ) (final cap : ℕ) → least top further final cap ≤ top - final
least-le top [] final cap = omega arith
least-le top (h ∷ hs) final cap = omega arith

-- a round's log arity is the least, by the two clauses that say so
least_from_clauses : (top : ℕ) (further : List ℕ) (next : Option ℕ) (final cap a : ℕ) → next ≡ slice_get further 0
    → IfNone next (a ≡ min cap (top - final)) → IfSome next (λ h. a ≡ min cap (min (top - final) (top - h))) → a ≡ least top further final cap
least_from_clauses top [] None final cap a is_next without_next with_next = without_next
least_from_clauses top [] (Some h) final cap a is_next without_next with_next = absurd (cc)
least_from_clauses top (h ∷ hs) None final cap a is_next without_next with_next = absurd (cc)
least_from_clauses top (h ∷ hs) (Some n) final cap a is_next without_next with_next = let same : n ≡ h = cc in rw (← same) with_next

-- a round of the least is the first through the stops
rounds_through-least : (top : ℕ) (further : List ℕ) (final cap a : ℕ) → 0 < cap → final < top → FallsFrom top further → a ≡ least top further final cap
    → rounds_through (top ∷ stops_below further final) cap ≡ a ∷ rounds_through ((top - a) ∷ stops_below further final) cap
rounds_through-least top [] final cap a positive far falls is_least = rounds_through-step top final [] cap a positive far is_least
rounds_through-least top (h ∷ hs) final cap a positive far falls is_least = elim (leb_tells h final) [ inl w ↦ to_final w.1 | inr w ↦ to_next w.1 ]
  where
    to_final : h ≤ final → rounds_through (top ∷ stops_below (h ∷ hs) final) cap ≡ a ∷ rounds_through ((top - a) ∷ stops_below (h ∷ hs) final) cap
    to_final low =
        let no_other = stops_below-all_low (h + 1) (h ∷ hs) final (omega arith, falls.1) (omega arith) in
        rw no_other (rounds_through-step top final [] cap a positive far (omega arith))

    to_next : final < h → rounds_through (top ∷ stops_below (h ∷ hs) final) cap ≡ a ∷ rounds_through ((top - a) ∷ stops_below (h ∷ hs) final) cap
    to_next above = rw (stops_below-above h hs final above) (rounds_through-step top h (stops_below hs final) cap a positive falls.0 (omega arith))

-- a round of log arity `a` from the height `top` leads to `top - a`, where the inputs `left` are
-- still to come
pub record Steps (top : ℕ) (further : List ℕ) (final cap a : ℕ) (left : List ℕ) : Type 0 where
  pub rounds : schedule (top ∷ further) final cap ≡ a ∷ schedule ((top - a) ∷ left) final cap
  pub falls : FallsFrom (top - a) left

-- a round that doesn't end at the next height
pub schedule-between : (top : ℕ) (further : List ℕ) (next : Option ℕ) (final cap a : ℕ) → 0 < cap → final < top → FallsFrom top further → next ≡ slice_get further 0
    → IfNone next (a ≡ min cap (top - final)) → IfSome next (λ h. a ≡ min cap (min (top - final) (top - h)))
    → next ≢ Some (top - a) → Steps top further final cap a further
schedule-between top further next final cap a positive far falling is_next without_next with_next other = record { rounds = rounds; falls = falls }
  where
    is_least : a ≡ least top further final cap
    is_least = least_from_clauses top further next final cap a is_next without_next with_next

    above_next : (hs : List ℕ) → FallsFrom top hs → a ≡ least top hs final cap → slice_get hs 0 ≢ Some (top - a) → FallsFrom (top - a) hs
    above_next [] from_top within apart = tt
    above_next (h ∷ hs) from_top within apart =
        let not_there : h ≢ top - a = (λ same. apart (ap Some same)) in
        let near = from_top.0 in
        (omega (arith, not_there), from_top.1)

    falls : FallsFrom (top - a) further
    falls = above_next further falling is_least (λ same. other (is_next ∙ same))

    rounds : schedule (top ∷ further) final cap ≡ a ∷ schedule ((top - a) ∷ further) final cap
    rounds =
        let within = least-le top further final cap in
        schedule-above top further final cap far
        ∙ rounds_through-least top further final cap a positive far falling is_least
        ∙ ap (λ rest. a ∷ rest) (sym (schedule-from (top - a) further final cap falls (omega (arith, is_least, within))))

-- a round that ends at the next height
pub schedule-there : (top : ℕ) (further : List ℕ) (next : Option ℕ) (final cap a : ℕ) → 0 < cap → final < top → FallsFrom top further → next ≡ slice_get further 0
    → IfNone next (a ≡ min cap (top - final)) → IfSome next (λ h. a ≡ min cap (min (top - final) (top - h)))
    → next ≡ Some (top - a) → Steps top further final cap a (drop 1 further)
schedule-there top [] next final cap a positive far falling is_next without_next with_next there = absurd (cc)
schedule-there top (h ∷ hs) next final cap a positive far falling is_next without_next with_next there = record { rounds = rounds; falls = falls }
  where
    is_least : a ≡ least top (h ∷ hs) final cap
    is_least = least_from_clauses top (h ∷ hs) next final cap a is_next without_next with_next

    at_h : h ≡ top - a
    at_h = cc

    falls : FallsFrom (top - a) hs
    falls = let P : ℕ → Type 0 = λ height. FallsFrom height hs in subst P at_h falling.1

    rounds : schedule (top ∷ h ∷ hs) final cap ≡ a ∷ schedule ((top - a) ∷ hs) final cap
    rounds =
        let within = least-le top (h ∷ hs) final cap in
        schedule-above top (h ∷ hs) final cap far
        ∙ rounds_through-least top (h ∷ hs) final cap a positive far falling is_least
        ∙ ap (λ rest. a ∷ rest) (rw (← at_h) (rounds_through-reached h hs final cap) ∙ sym (schedule-from (top - a) hs final cap falls (omega (arith, is_least, within))))
