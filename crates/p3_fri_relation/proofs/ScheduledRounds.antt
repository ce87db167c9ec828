-- The rounds of an instance: their log arities, where they end, and that they meet each claimed log
-- height.
use Rattle.std.proofs.Common.{◌≡◌, ℕ, zero, suc, ◌+◌, ◌-◌, ◌<◌, ◌≤◌, inl, inr, List, [], ◌∷◌}
use Rattle.std.proofs.Common.{◌||◌, take, Bool, true, false, eqb, refl, sym}
use Rattle.std.proofs.Common.{subst, arith, get_or, nat_lt}
use Rattle.std.specs.List.{All, sum, filter}
use Rattle.std.proofs.lemmas.Bool.{eq-eqb}
use Rattle.std.proofs.lemmas.Bool.Decides.{leb_tells}
use Rattle.std.proofs.lemmas.List.Elements.{All-nil, All-cons, All-head, All-tail, All-weaker}
use Rattle.std.proofs.lemmas.List.Elements.{All-same}
use Rattle.std.proofs.lemmas.List.Sums.{sum_by-cons}
use Rattle.p3_fri_folding.specs.Schedule.{IsStrictlyFalling, stops, schedule, Reaches}
use Rattle.p3_fri_folding.proofs.Rounds.{FallsFrom, stops_below, stops_below-above, stops_below-low}
use Rattle.p3_fri_folding.proofs.Rounds.{schedule-low}
use Rattle.p3_fri_folding.proofs.Fewest.{schedule-in_range, schedule-leads_down}
use Rattle.p3_fri_relation.specs.FoldedQuery.{AreInRange, AreMet, reaches}
use Rattle.algebra.proofs.Lists.{all-last}

-- rounds that lead to a lower height fold to it
pub reaches-from : (rounds : List ℕ) (top k : ℕ) → k < top → Reaches top rounds k → reaches rounds top k ≡ true
reaches-from [] top k below (zero, leads) = absurd (omega (arith, leads))
reaches-from [] top k below (suc n, leads) = absurd (omega (arith, leads))
reaches-from (a ∷ rounds) top k below (zero, leads) = absurd (omega (arith, leads))
reaches-from (a ∷ rounds) top k below (suc n, leads) =
    let parts = sum_by-cons (λ r. r) a (take n rounds) in
    elim (leb_tells (top - a) k) [
      | inl w ↦ (let there : top - a ≡ k = (let high = w.1 in omega (arith, leads, parts)) in rw (eq-eqb (top - a) k there) refl)
      | inr w ↦ rw (reaches-from rounds (top - a) k w.1 (n, (let low = w.1 in omega (arith, leads, parts)))) (or-true (eqb (top - a) k))
    ]
  where
    or-true : (p : Bool) → (p || true) ≡ true
    or-true true = refl
    or-true false = refl

-- what holds of each stop holds of each height that isn't below the final one
all_from_stops : (P : ℕ → Type 0) (heights : List ℕ) (final : ℕ) → All (λ h. final ≤ h) heights
    → All P (stops_below heights final) → P final → All P heights
all_from_stops P [] final high of_stops of_final = All-nil P
all_from_stops P (h ∷ hs) final high of_stops of_final = elim (leb_tells h final) [
  | inl w ↦ (
      let same : final ≡ h = (let low = w.1 in let up = All-head (λ k. final ≤ k) h hs high in omega arith) in
      All-cons P h hs (subst P same of_final)
      (all_from_stops P hs final (All-tail (λ k. final ≤ k) h hs high)
      (All-same P (stops_below hs final) (stops_below (h ∷ hs) final) (sym (stops_below-low h hs final w.1)) of_stops) of_final))
  | inr w ↦ (
      let listed = All-same P (h ∷ stops_below hs final) (stops_below (h ∷ hs) final) (sym (stops_below-above h hs final w.1)) of_stops in
      All-cons P h hs (All-head P h (stops_below hs final) listed)
      (all_from_stops P hs final (All-tail (λ k. final ≤ k) h hs high)
      (All-tail P h (stops_below hs final) listed) of_final))
]

-- heights that fall and are met
met_from : (met : ℕ → Bool) (top : ℕ) (hs : List ℕ) → FallsFrom top hs → All (λ h. met h ≡ true) hs → AreMet met top hs
met_from met top [] falls each = tt
met_from met top (h ∷ hs) falls each =
    (falls.0, All-head (λ k. met k ≡ true) h hs each, met_from met h hs falls.1 (All-tail (λ k. met k ≡ true) h hs each))

pub falling_below : (top : ℕ) (hs : List ℕ) → FallsFrom top hs → All (λ h. h < top) hs
falling_below top [] falls = All-nil (λ h. h < top)
falling_below top (h ∷ hs) falls =
    All-cons (λ k. k < top) h hs falls.0
    (All-weaker (λ k. k < h) (λ k. k < top) (λ k below. (let near = falls.0 in omega arith)) hs (falling_below h hs falls.1))

-- the sum of rounds within a bound bounds each of them
each_in_sum : (rounds : List ℕ) → All (λ a. a ≤ sum rounds) rounds
each_in_sum [] = All-nil (λ a. a ≤ 0)
each_in_sum (a ∷ rounds) =
    let whole = sum_by-cons (λ r. r) a rounds in
    All-cons (λ b. b ≤ sum (a ∷ rounds)) a rounds (omega arith)
    (All-weaker (λ b. b ≤ sum rounds) (λ b. b ≤ sum (a ∷ rounds)) (λ b within. omega arith) rounds (each_in_sum rounds))

in_range_from : (rounds : List ℕ) → All (λ a. (1 ≤ a) × (a < 64)) rounds → AreInRange rounds
in_range_from [] each = tt
in_range_from (a ∷ rounds) each =
    let here = All-head (λ b. (1 ≤ b) × (b < 64)) a rounds each in
    (here.0, here.1, in_range_from rounds (All-tail (λ b. (1 ≤ b) × (b < 64)) a rounds each))

-- rounds through all stops meet each further height
through_stops : (top : ℕ) (further : List ℕ) (final : ℕ) (rounds : List ℕ) → FallsFrom top further → All (λ h. final ≤ h) further
    → All (Reaches top rounds) (stops (top ∷ further) final) → All (λ h. reaches rounds top h ≡ true) further
unfolding stops
through_stops top further final rounds falls high through =
    let later : All (Reaches top rounds) (stops_below further final) = All-tail (Reaches top rounds) top (stops_below further final) through in
    let each = all_from_stops (Reaches top rounds) further final high later (all-last (Reaches top rounds) (filter (nat_lt final) further) final later) in
    λ k d within. reaches-from rounds top (get_or further k d) (falling_below top further falls k d within) (each k d within)

-- falling heights, of which the tallest is `top` and none is below the final one
module _ (top : ℕ) (further : List ℕ) (final cap : ℕ) (falling : IsStrictlyFalling (top ∷ further)) (falls : FallsFrom top further)
    (tall : final ≤ top) (high : All (λ h. final ≤ h) further) (positive : 0 < cap) where
  abbrev rounds : List ℕ
  rounds = schedule (top ∷ further) final cap

  -- the rounds together lead to the final height
  pub scheduled-sum : sum rounds + final ≡ top
  scheduled-sum = elim (leb_tells top final) [
    | inl w ↦ rw (schedule-low top further final cap w.1) (let low = w.1 in omega arith)
    | inr w ↦ (schedule-leads_down (top ∷ further) final cap falling w.1).total
  ]

  pub scheduled-range : top < 64 → AreInRange rounds
  scheduled-range small =
      let whole = scheduled-sum in
      in_range_from rounds (λ k d within. (
        let one = schedule-in_range (top ∷ further) final cap positive k d within in one.0,
        let bound = each_in_sum rounds k d within in omega arith,
      ))

  -- they meet each further height
  pub scheduled-met : AreMet (reaches rounds top) top further
  scheduled-met = met_from (reaches rounds top) top further falls (elim (leb_tells top final) [
    | inl w ↦ (λ k d within. absurd (
        let below = falling_below top further falls k d within in
        let up = high k d within in
        let low = w.1 in omega arith))
    | inr w ↦ through_stops top further final rounds falls high (schedule-leads_down (top ∷ further) final cap falling w.1).through
  ])
