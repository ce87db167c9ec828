-- What an instance fixes: its log heights begin with the greatest and fall to no less than the final
-- one, and its rounds lead from there to the final one and meet them all.
use Rattle.std.proofs.Common.{◌≡◌, ℕ, suc, ◌+◌, ◌<◌, ◌≤◌, List, ◌∷◌, get_or, true, ap}
use Rattle.std.proofs.Common.{arith}
use Rattle.std.specs.List.{All, sum}
use Rattle.p3_fri_folding.specs.Schedule.{IsStrictlyFalling, schedule}
use Rattle.p3_fri_folding.proofs.Rounds.{FallsFrom}
use Rattle.p3_fri_relation.specs.Setting.{Parameters, CommitmentClaim, final_height}
use Rattle.p3_fri_relation.specs.Heights.{matrices_of, log_height, heights_below, heights_of}
use Rattle.p3_fri_relation.specs.Heights.{has_height}
use Rattle.p3_fri_relation.specs.FoldedQuery.{AreInRange, AreMet, reaches}
use Rattle.p3_fri_relation.specs.Acceptance.{IsInRange, top_height, log_arities}
use Rattle.p3_fri_relation.proofs.ClaimedHeights.{strictly_falling, some_has_height}
use Rattle.p3_fri_relation.proofs.ClaimedHeights.{has_height-greatest, heights_below-fall}
use Rattle.p3_fri_relation.proofs.ClaimedHeights.{heights_below-had, heights_of-first}
use Rattle.p3_fri_relation.proofs.ScheduledRounds.{scheduled-sum, scheduled-range, scheduled-met}

module _ (p : Parameters) {E InCom : Type 0} (claims : List (CommitmentClaim E InCom)) where
  -- the log heights below the greatest
  abbrev pub further_heights : List ℕ
  further_heights = heights_below p.log_blowup (matrices_of claims) (top_height p claims)

  module _ (two_adicity : ℕ) (ranged : IsInRange p claims two_adicity) where
    pub instance_heights : heights_of p.log_blowup (matrices_of claims) ≡ top_height p claims ∷ further_heights
    instance_heights = heights_of-first p.log_blowup (matrices_of claims) ranged.some_matrix

    -- a log height of some matrix is between the final one and the two-adicity
    pub instance_height-bounds : (h : ℕ) → has_height p.log_blowup (matrices_of claims) h ≡ true
        → (final_height p ≤ h) × (h ≤ two_adicity)
    instance_height-bounds h is_one =
        let some = some_has_height p.log_blowup (matrices_of claims) h is_one in
        let low : final_height p ≤ log_height p.log_blowup some.1 = rw some.3 at (ranged.tall_enough some.0 some.1 some.2) in
        let high : log_height p.log_blowup some.1 ≤ two_adicity = rw some.3 at (ranged.within_two_adicity some.0 some.1 some.2) in
        let same = some.4 in
        (omega arith, omega arith)

    pub instance_top : (final_height p ≤ top_height p claims) × (top_height p claims ≤ two_adicity)
    instance_top = instance_height-bounds (top_height p claims) (has_height-greatest p.log_blowup (matrices_of claims) ranged.some_matrix)

    further-fall : FallsFrom (top_height p claims) further_heights
    further-fall = heights_below-fall p.log_blowup (matrices_of claims) (top_height p claims)

    falling : IsStrictlyFalling (top_height p claims ∷ further_heights)
    falling = strictly_falling (suc (top_height p claims)) (top_height p claims ∷ further_heights) (omega arith, further-fall)

    further-high : All (λ h. final_height p ≤ h) further_heights
    further-high k d within =
        (instance_height-bounds (get_or further_heights k d) (heights_below-had p.log_blowup (matrices_of claims) (top_height p claims) k d within)).0

    arities-are : log_arities p claims ≡ schedule (top_height p claims ∷ further_heights) (final_height p) p.max_log_arity
    arities-are = ap (λ heights. schedule heights (final_height p) p.max_log_arity) instance_heights

    -- the rounds lead from the greatest log height to the final one
    pub instance_sum : sum (log_arities p claims) + final_height p ≡ top_height p claims
    instance_sum = rw arities-are
        (scheduled-sum (top_height p claims) further_heights (final_height p) p.max_log_arity falling further-fall instance_top.0 further-high ranged.cap)

    pub instance_range : two_adicity < 64 → AreInRange (log_arities p claims)
    instance_range small = rw arities-are
        (scheduled-range (top_height p claims) further_heights (final_height p) p.max_log_arity falling further-fall instance_top.0 further-high ranged.cap
        (let within = instance_top.1 in omega arith))

    -- and meet each further log height
    pub instance_met : AreMet (reaches (log_arities p claims) (top_height p claims)) (top_height p claims) further_heights
    instance_met = rw arities-are
        (scheduled-met (top_height p claims) further_heights (final_height p) p.max_log_arity falling further-fall instance_top.0 further-high ranged.cap)
