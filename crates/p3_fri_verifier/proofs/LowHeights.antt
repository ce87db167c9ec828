-- Log heights below the final one: rounds of the schedule meet those that aren't, and no other.
use Rattle.std.proofs.Common.{◌≡◌, ℕ, zero, suc, ◌+◌, ◌-◌, ◌<◌, ◌≤◌, inl, inr, List, [], ◌∷◌}
use Rattle.std.proofs.Common.{length, take, Bool, true, false, refl, sym, ap, subst, arith, get_or, nat_lt}
use Rattle.std.specs.List.{All, sum, filter}
use Rattle.std.proofs.lemmas.Bool.{ne_eqb}
use Rattle.std.proofs.lemmas.Bool.Decides.{leb_tells}
use Rattle.std.proofs.lemmas.List.Elements.{All-nil, All-cons, All-head, All-tail, All-same}
use Rattle.std.proofs.lemmas.List.Sums.{sum_by-cons}
use Rattle.p3_fri_folding.specs.Schedule.{IsStrictlyFalling, tallest, stops, schedule, Reaches}
use Rattle.p3_fri_folding.proofs.Rounds.{FallsFrom, stops_below, stops_below-above, stops_below-low}
use Rattle.p3_fri_folding.proofs.Rounds.{schedule-nil, schedule-low}
use Rattle.p3_fri_folding.proofs.Fewest.{schedule-leads_down}
use Rattle.p3_fri_relation.specs.FoldedQuery.{reaches}
use Rattle.p3_fri_relation.specs.Faults.{IsUnmet, IsUnconsumed}
use Rattle.p3_fri_relation.proofs.ScheduledRounds.{reaches-from, falling_below}
use Rattle.p3_fri_verifier.specs.Claimed.{IsFirstBelow}
use Rattle.algebra.proofs.Lists.{all-last}

-- to a height below their end they don't fold
reaches-past : (rounds : List ℕ) (top k : ℕ) → k + sum rounds < top → reaches rounds top k ≡ false
reaches-past [] top k past = refl
reaches-past (a ∷ rounds) top k past =
    let parts = sum_by-cons (λ r. r) a rounds in
    rw (ne_eqb (top - a) k (λ there. omega (arith, there, parts, past)), reaches-past rounds (top - a) k (omega (arith, parts, past))) refl

-- what holds of each stop holds of each height that isn't below the final one
each_from_stops : (P : ℕ → Type 0) (heights : List ℕ) (final : ℕ) → All P (stops_below heights final) → P final
    → All (λ h. final ≤ h → P h) heights
each_from_stops P [] final of_stops of_final = All-nil (λ h. final ≤ h → P h)
each_from_stops P (h ∷ hs) final of_stops of_final = elim (leb_tells h final) [
  | inl w ↦ All-cons (λ k. final ≤ k → P k) h hs
      (λ up. (let same : final ≡ h = (let low = w.1 in omega arith) in subst P same of_final))
      (each_from_stops P hs final
      (All-same P (stops_below hs final) (stops_below (h ∷ hs) final) (sym (stops_below-low h hs final w.1)) of_stops) of_final)
  | inr w ↦ (
      let listed = All-same P (h ∷ stops_below hs final) (stops_below (h ∷ hs) final) (sym (stops_below-above h hs final w.1)) of_stops in
      All-cons (λ k. final ≤ k → P k) h hs (λ up. All-head P h (stops_below hs final) listed)
      (each_from_stops P hs final (All-tail P h (stops_below hs final) listed) of_final))
]

through_stops : (top : ℕ) (further : List ℕ) (final : ℕ) (rounds : List ℕ) → FallsFrom top further
    → All (Reaches top rounds) (stops (top ∷ further) final) → All (λ h. final ≤ h → reaches rounds top h ≡ true) further
unfolding stops
through_stops top further final rounds falls through k d within up =
    let later : All (Reaches top rounds) (stops_below further final) = All-tail (Reaches top rounds) top (stops_below further final) through in
    reaches-from rounds top (get_or further k d) (falling_below top further falls k d within)
    (each_from_stops (Reaches top rounds) further final later (all-last (Reaches top rounds) (filter (nat_lt final) further) final later) k d within up)

-- where all heights from the final one on are met, and no lower one, the first lower one is the first unmet
first_unmet : (met : ℕ → Bool) (final : ℕ) → ((k : ℕ) → k < final → met k ≡ false) → (h : ℕ) (hs : List ℕ) (place next remaining : ℕ)
    → FallsFrom h hs → All (λ k. final ≤ k → met k ≡ true) hs → IsFirstBelow final hs place next
    → remaining + place ≡ length hs → IsUnmet met next remaining h hs
first_unmet met final low h [] place next remaining falls each first left = absurd (omega (arith, first.within))
first_unmet met final low h (x ∷ xs) zero next remaining falls each first left =
    inl (first.next_is, omega (arith, left), inr (low x (omega (arith, first.next_is, first.below))))
first_unmet met final low h (x ∷ xs) (suc place) next remaining falls each first left =
    let up : final ≤ x = All-head (λ k. final ≤ k) x (take place xs) first.before in
    inr (
      falls.0,
      All-head (λ k. final ≤ k → met k ≡ true) x xs each up,
      first_unmet met final low x xs place next remaining falls.1 (All-tail (λ k. final ≤ k → met k ≡ true) x xs each)
          (record {
            within = omega (arith, first.within);
            next_is = first.next_is;
            below = first.below;
            before = All-tail (λ k. final ≤ k) x (take place xs) first.before;
          }) (omega (arith, left)),
    )

-- rounds that meet each stop leave the first lower height
left_by_rounds : (top : ℕ) (further : List ℕ) (final : ℕ) (rounds : List ℕ) (place next remaining : ℕ) → FallsFrom top further
    → sum rounds + final ≡ top → All (λ h. final ≤ h → reaches rounds top h ≡ true) further
    → IsFirstBelow final further place next → remaining + place ≡ length further
    → IsUnmet (reaches rounds top) next remaining top further
left_by_rounds top further final rounds place next remaining falls total each first left =
    first_unmet (reaches rounds top) final (λ k low. reaches-past rounds top k (omega (arith, total, low))) top further place next remaining
    falls each first left

left_by_schedule : (top : ℕ) (further : List ℕ) (final cap : ℕ) (place next remaining : ℕ) → IsStrictlyFalling (top ∷ further)
    → FallsFrom top further → final ≤ top → IsFirstBelow final further place next → remaining + place ≡ length further
    → IsUnmet (reaches (schedule (top ∷ further) final cap) top) next remaining top further
left_by_schedule top further final cap place next remaining falling falls tall first left = elim (leb_tells top final) [
  | inl w ↦ rw (schedule-low top further final cap w.1)
      (left_by_rounds top further final [] place next remaining falls (let low = w.1 in omega arith)
      (λ k d within up. absurd (let below = falling_below top further falls k d within in let low = w.1 in omega arith)) first left)
  | inr w ↦ (
      let leads = schedule-leads_down (top ∷ further) final cap falling w.1 in
      left_by_rounds top further final (schedule (top ∷ further) final cap) place next remaining falls leads.total
      (through_stops top further final (schedule (top ∷ further) final cap) falls leads.through) first left)
]

-- of falling heights, the first below the final one, where it isn't the first, is the first that no round of the schedule meets
pub unconsumed : (heights : List ℕ) (top : ℕ) (further : List ℕ) (final cap place next remaining : ℕ) → heights ≡ top ∷ further
    → IsStrictlyFalling (top ∷ further) → FallsFrom top further → 0 < place → remaining ≡ length heights - place
    → IsFirstBelow final heights place next
    → IsUnconsumed (reaches (schedule heights final cap) top) next remaining heights
unconsumed heights top further final cap zero next remaining same falling falls after left first = absurd (omega arith)
unconsumed heights top further final cap (suc place) next remaining same falling falls after left first =
    subst (λ (list : List ℕ). IsUnconsumed (reaches (schedule list final cap) top) next remaining list) (sym same)
    (left_by_schedule top further final cap place next remaining falling falls tall below rest)
  where
    moved : IsFirstBelow final (top ∷ further) (suc place) next
    moved = subst (λ (list : List ℕ). IsFirstBelow final list (suc place) next) same first

    tall : final ≤ top
    tall = All-head (λ k. final ≤ k) top (take place further) moved.before

    below : IsFirstBelow final further place next
    below = record {
      within = omega (arith, moved.within);
      next_is = moved.next_is;
      below = moved.below;
      before = All-tail (λ k. final ≤ k) top (take place further) moved.before;
    }

    rest : remaining + place ≡ length further
    rest = let whole : length heights ≡ length (top ∷ further) = ap length same in omega (arith, whole, left, moved.within)

-- without a height above the final one there are no rounds
pub no_rounds : (heights : List ℕ) (final cap : ℕ) → tallest heights ≤ final → schedule heights final cap ≡ []
no_rounds [] final cap low = schedule-nil final cap
no_rounds (top ∷ further) final cap low = schedule-low top further final cap low
