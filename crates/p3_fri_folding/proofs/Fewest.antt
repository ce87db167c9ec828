-- The schedule leads down through every stop, and no list of rounds that does is shorter.
use Rattle.std.proofs.Common.{◌≡◌, ℕ, zero, suc, ◌+◌, ◌-◌, ◌*◌, ◌/◌, ◌%◌, ◌<◌, ◌≤◌, inl, inr, List}
use Rattle.std.proofs.Common.{[], ◌∷◌, ◌++◌, length, take, drop, replicate, refl, ap, ◌∙◌, arith}
use Rattle.std.proofs.Common.{eqb, zero-add, length-append, if◌then◌else◌}
use Rattle.std.proofs.Math.Nat.{div-add-mod, mod-lt, mul-le-mul_left, le_of_mul-le-mul_left}
use Rattle.std.proofs.Math.Nat.{mul_comm}
use Rattle.std.proofs.Math.Seq.{take-add, take-append-add, take-append_seam}
use Rattle.std.proofs.lemmas.List.{take-append-drop, length-replicate}
use Rattle.std.proofs.Math.Dec.{eqb-suc-zero}
use Rattle.std.proofs.lemmas.Bool.Decides.{leb_tells}
use Rattle.std.proofs.lemmas.List.Sums.{sum_by-append, sum_by-le}
use Rattle.std.proofs.lemmas.List.Folds.{sum_by-replicate}
use Rattle.std.proofs.lemmas.List.Elements.{All-take, All-drop, All-append, All-cons, All-nil}
use Rattle.std.proofs.lemmas.List.Elements.{All-tail, All-replicate}
use Rattle.std.specs.List.{All, sum}
use Rattle.p3_fri_folding.specs.Schedule.{IsStrictlyFalling, tallest, stops, rounds_over}
use Rattle.p3_fri_folding.specs.Schedule.{rounds_through, schedule, Reaches, LeadsDown, AreFewest}
use Rattle.p3_fri_folding.proofs.Rounds.{FallsFrom, falls_from, stops_below, stops_below-low}
use Rattle.p3_fri_folding.proofs.Rounds.{stops_below-above, schedule-nil, schedule-low}
use Rattle.p3_fri_folding.proofs.Rounds.{schedule-above}

-- each stop is below the one before it, and the last is the final height
abbrev Down : (top : ℕ) (later : List ℕ) (final : ℕ) → Type 0
Down top [] final = top ≡ final
Down top (s ∷ ss) final = (s < top) × Down s ss final

-- heights that fall from a low height fall from a higher one
pub falls_from_higher : (low high : ℕ) (hs : List ℕ) → low ≤ high → FallsFrom low hs → FallsFrom high hs
falls_from_higher low high [] lower falls = tt
falls_from_higher low high (h ∷ hs) lower falls = (omega (arith, falls.0), falls.1)

-- the stops below falling heights fall
down-stops : (top : ℕ) (hs : List ℕ) (final : ℕ) → FallsFrom top hs → final < top → Down top (stops_below hs final) final
down-stops top [] final falls above = (above, refl)
down-stops top (h ∷ hs) final falls above = elim (leb_tells h final) [
  | inl w ↦ rw (stops_below-low h hs final w.1) (down-stops top hs final (falls_from_higher h top hs (omega (arith, falls.0)) falls.1) above)
  | inr w ↦ rw (stops_below-above h hs final w.1) (falls.0, down-stops h hs final falls.1 w.1)
]

-- the rounds over one distance

-- the round of what is left of a distance, unless nothing is
abbrev remainder : ℕ → List ℕ
remainder r = if eqb r 0 then [] else (r ∷ [])

remainder-suc : (r : ℕ) → remainder (suc r) ≡ suc r ∷ []
remainder-suc r = rw (eqb-suc-zero r) refl

sum-remainder : (r : ℕ) → sum (remainder r) ≡ r
sum-remainder zero = refl
sum-remainder (suc r) = rw (remainder-suc r) (zero-add (suc r))

All-remainder : (P : ℕ → Type 0) (r : ℕ) → (0 < r → P r) → All P (remainder r)
All-remainder P zero holds = All-nil P
All-remainder P (suc r) holds = rw (remainder-suc r) (All-cons P (suc r) [] (holds (omega arith)) (All-nil P))

sum-rounds_over : (distance cap : ℕ) → sum (rounds_over distance cap) ≡ distance
unfolding rounds_over
sum-rounds_over distance cap = sum_by-append (λ a. a) (replicate (distance / cap) cap) (remainder (distance % cap)) ∙ parts
  where
    parts : sum (replicate (distance / cap) cap) + sum (remainder (distance % cap)) ≡ distance
    parts = rw (sum_by-replicate (λ a. a) (distance / cap) cap, sum-remainder (distance % cap), mul_comm (distance / cap) cap) (div-add-mod distance cap)

-- what holds of the cap and of each lesser round holds of all rounds
All-rounds_over : (P : ℕ → Type 0) (distance cap : ℕ) → 0 < cap → P cap → ((r : ℕ) → 0 < r → r < cap → P r) → All P (rounds_over distance cap)
unfolding rounds_over
All-rounds_over P distance cap positive of_cap of_lesser =
    All-append P (replicate (distance / cap) cap) (remainder (distance % cap))
    (All-replicate P (distance / cap) cap of_cap)
    (All-remainder P (distance % cap) (λ some. of_lesser (distance % cap) some (mod-lt distance positive)))

-- no list with the same sum is shorter
rounds_over-fewest : (cap : ℕ) (other : List ℕ) → 0 < cap → All (λ a. a ≤ cap) other → length (rounds_over (sum other) cap) ≤ length other
unfolding rounds_over
rounds_over-fewest cap other positive capped =
    rw (length-append (replicate (distance / cap) cap) (remainder (distance % cap)), length-replicate (distance / cap) cap) (by_remainder (distance % cap) refl)
  where
    distance : ℕ
    distance = sum other

    within : cap * (distance / cap) + distance % cap ≤ cap * length other
    within =
        let at_most = sum_by-le (λ a. a) cap other capped in
        let whole = div-add-mod distance cap in
        let turned = mul_comm (length other) cap in
        omega arith

    by_remainder : (r : ℕ) → r ≡ distance % cap → distance / cap + length (remainder r) ≤ length other
    by_remainder zero is_remainder =
        let enough : distance / cap ≤ length other = le_of_mul-le-mul_left {m = distance / cap} {n = length other} {k = cap} (omega (arith, within)) positive in
        omega arith
    by_remainder (suc r) is_remainder = elim (leb_tells (length other) (distance / cap)) [
      | inl w ↦ absurd (let too_few = mul-le-mul_left {m = length other} {n = distance / cap} cap w.1 in omega (arith, within))
      | inr w ↦ (let one_more = ap length (remainder-suc r) in let fewer = w.1 in omega arith)
    ]

-- the rounds through the stops

sum-rounds_through : (top : ℕ) (later : List ℕ) (final cap : ℕ) → Down top later final → sum (rounds_through (top ∷ later) cap) + final ≡ top
unfolding rounds_through
sum-rounds_through top [] final cap down = omega arith
sum-rounds_through top (s ∷ ss) final cap down =
    let parts = sum_by-append (λ a. a) (rounds_over (top - s) cap) (rounds_through (s ∷ ss) cap) in
    let first = sum-rounds_over (top - s) cap in
    let rest = sum-rounds_through s ss final cap down.1 in
    let below = down.0 in
    omega arith

All-rounds_through : (P : ℕ → Type 0) (top : ℕ) (later : List ℕ) (cap : ℕ) → 0 < cap → P cap → ((r : ℕ) → 0 < r → r < cap → P r) → All P (rounds_through (top ∷ later) cap)
unfolding rounds_through
All-rounds_through P top [] cap positive of_cap of_lesser = All-nil P
All-rounds_through P top (s ∷ ss) cap positive of_cap of_lesser =
    All-append P (rounds_over (top - s) cap) (rounds_through (s ∷ ss) cap)
    (All-rounds_over P (top - s) cap positive of_cap of_lesser)
    (All-rounds_through P s ss cap positive of_cap of_lesser)

at-head : (P : ℕ → Type 0) (x : ℕ) (xs : List ℕ) → All P (x ∷ xs) → P x
at-head P x xs each = each 0 0 (omega arith)

-- what rounds reach, they reach after rounds that lead to where they begin
reaches-later : (top s : ℕ) (front rounds later : List ℕ) → sum front + s ≡ top → All (Reaches s rounds) later → All (Reaches top (front ++ rounds)) later
reaches-later top s front rounds [] leads reached = All-nil (Reaches top (front ++ rounds))
reaches-later top s front rounds (h ∷ hs) leads reached =
    All-cons (Reaches top (front ++ rounds)) h hs here (reaches-later top s front rounds hs leads (All-tail (Reaches s rounds) h hs reached))
  where
    here : Reaches top (front ++ rounds) h
    here =
        let there = at-head (Reaches s rounds) h hs reached in
        (length front + there.0, rw (take-append-add front rounds there.0) (let parts = sum_by-append (λ a. a) front (take there.0 rounds) in let on = there.1 in omega arith))

reaches-stops : (top : ℕ) (later : List ℕ) (final cap : ℕ) → Down top later final → All (Reaches top (rounds_through (top ∷ later) cap)) later
unfolding rounds_through
reaches-stops top [] final cap down = All-nil (Reaches top [])
reaches-stops top (s ∷ ss) final cap down =
    let front = rounds_over (top - s) cap in
    let rest = rounds_through (s ∷ ss) cap in
    let leads : sum front + s ≡ top = (let whole = sum-rounds_over (top - s) cap in let below = down.0 in omega arith) in
    let first : Reaches top (front ++ rest) s = (length front, rw (take-append_seam front rest) leads) in
    All-cons (Reaches top (front ++ rest)) s ss first (reaches-later top s front rest ss leads (reaches-stops s ss final cap down.1))

-- what is left of another list, after it has reached a stop, reaches the later stops
reaches-rest : (top s k : ℕ) (other : List ℕ) (bound : ℕ) (later : List ℕ) (final : ℕ) → sum (take k other) + s ≡ top → bound ≤ s → Down bound later final
    → All (Reaches top other) later → All (Reaches s (drop k other)) later
reaches-rest top s k other bound [] final leads within down reached = All-nil (Reaches s (drop k other))
reaches-rest top s k other bound (h ∷ hs) final leads within down reached =
    All-cons (Reaches s (drop k other)) h hs here (reaches-rest top s k other h hs final leads (omega (arith, down.0)) down.1 (All-tail (Reaches top other) h hs reached))
  where
    there : Reaches top other h
    there = at-head (Reaches top other) h hs reached

    m : ℕ
    m = there.0

    after : k ≤ m → Reaches s (drop k other) h
    after later_on =
        let split : k + (m - k) ≡ m = omega arith in
        let whole : sum (take (k + (m - k)) other) + h ≡ top = rw split there.1 in
        let parts : sum (take (k + (m - k)) other) ≡ sum (take k other) + sum (take (m - k) (drop k other)) = ap sum (take-add k (m - k) other) ∙ sum_by-append (λ a. a) (take k other) (take (m - k) (drop k other)) in
        (m - k, omega arith)

    before : m < k → ⊥
    before sooner =
        let split : m + (k - m) ≡ k = omega arith in
        let whole : sum (take (m + (k - m)) other) + s ≡ top = rw split leads in
        let parts : sum (take (m + (k - m)) other) ≡ sum (take m other) + sum (take (k - m) (drop m other)) = ap sum (take-add m (k - m) other) ∙ sum_by-append (λ a. a) (take m other) (take (k - m) (drop m other)) in
        let at_h = there.1 in
        let below = down.0 in
        omega arith

    here : Reaches s (drop k other) h
    here = elim (leb_tells k m) [ inl w ↦ after w.1 | inr w ↦ absurd (before w.1) ]

rounds_through-fewest : (top : ℕ) (later : List ℕ) (final cap : ℕ) (other : List ℕ) → 0 < cap → Down top later final → All (λ a. a ≤ cap) other → All (Reaches top other) later
    → length (rounds_through (top ∷ later) cap) ≤ length other
unfolding rounds_through
rounds_through-fewest top [] final cap other positive down capped reached = omega arith
rounds_through-fewest top (s ∷ ss) final cap other positive down capped reached =
    let there = at-head (Reaches top other) s ss reached in
    let k = there.0 in
    let distance : sum (take k other) ≡ top - s = (let leads = there.1 in omega arith) in
    let to_stop = rw distance at (rounds_over-fewest cap (take k other) positive (All-take (λ a. a ≤ cap) k other capped)) in
    let left = reaches-rest top s k other s ss final there.1 (omega arith) down.1 (All-tail (Reaches top other) s ss reached) in
    let from_stop = rounds_through-fewest s ss final cap (drop k other) positive down.1 (All-drop (λ a. a ≤ cap) k other capped) left in
    let rounds = length-append (rounds_over (top - s) cap) (rounds_through (s ∷ ss) cap) in
    let others = length-append (take k other) (drop k other) in
    let both = ap length (take-append-drop k other) in
    omega arith

-- the schedule

pub schedule-in_range : (heights : List ℕ) (final cap : ℕ) → 0 < cap → All (λ a. (1 ≤ a) × (a ≤ cap)) (schedule heights final cap)
schedule-in_range [] final cap positive = rw (schedule-nil final cap) (All-nil (λ a. (1 ≤ a) × (a ≤ cap)))
schedule-in_range (top ∷ further) final cap positive = elim (leb_tells top final) [
  | inl w ↦ rw (schedule-low top further final cap w.1) (All-nil (λ a. (1 ≤ a) × (a ≤ cap)))
  | inr w ↦ rw (schedule-above top further final cap w.1)
      (All-rounds_through (λ a. (1 ≤ a) × (a ≤ cap)) top (stops_below further final) cap positive (positive, omega arith) (λ r some lesser. (some, omega arith)))
]

pub schedule-leads_down : (heights : List ℕ) (final cap : ℕ) → IsStrictlyFalling heights → final < tallest heights → LeadsDown heights final (schedule heights final cap)
unfolding stops
schedule-leads_down [] final cap falling above = absurd (omega arith)
schedule-leads_down (top ∷ further) final cap falling above = rw (schedule-above top further final cap above) (record {
  total = sum-rounds_through top (stops_below further final) final cap down;
  through = All-cons (Reaches top rounds) top (stops_below further final) (0, zero-add top) (reaches-stops top (stops_below further final) final cap down);
})
  where
    down : Down top (stops_below further final) final
    down = down-stops top further final (falls_from top further falling) above

    rounds : List ℕ
    rounds = rounds_through (top ∷ stops_below further final) cap

pub schedule-fewest : (heights : List ℕ) (final cap : ℕ) → IsStrictlyFalling heights → 0 < cap → AreFewest heights final cap (schedule heights final cap)
unfolding stops
schedule-fewest [] final cap falling positive other capped leads = rw (schedule-nil final cap) (omega arith)
schedule-fewest (top ∷ further) final cap falling positive other capped leads = elim (leb_tells top final) [
  | inl w ↦ rw (schedule-low top further final cap w.1) (omega arith)
  | inr w ↦ rw (schedule-above top further final cap w.1)
      (rounds_through-fewest top (stops_below further final) final cap other positive (down-stops top further final (falls_from top further falling) w.1) capped (All-tail (Reaches top other) top (stops_below further final) leads.through))
]
