-- Where there is no room, which log heights are the tallest, and how far the rounds lead.
use Rattle.std.proofs.Common.{◌≡◌, ℕ, zero, suc, ◌+◌, ◌^◌, ◌≤◌, ◌<◌, List, [], ◌∷◌, length}
use Rattle.std.proofs.Common.{get_or, sum, inl, inr, ap, ◌∙◌, subst, arith}
use Rattle.std.proofs.Math.Nat.{mul-le-mul_left}
use Rattle.std.proofs.lemmas.Bool.{cases_lt}
use Rattle.p3_fri_folding.specs.Schedule.{IsStrictlyFalling, tallest, schedule, LeadsDown}
use Rattle.p3_fri_folding.proofs.Rounds.{schedule-nil, schedule-low}
use Rattle.fri_soundness_error.specs.Errors.{HasRows}

-- more failing rows than rows leave no room
pub too_many : (log_blowup h shares failing : ℕ) → 1 ≤ shares → 2 ^ h < failing
    → HasRows log_blowup h shares failing → ⊥
too_many log_blowup h shares failing some many room =
    omega (arith, room.enough, many, mul-le-mul_left failing some)

-- no height is above the first
pub below_first : (heights : List ℕ) → IsStrictlyFalling heights → (k : ℕ) → k < length heights
    → get_or heights k 0 ≤ tallest heights
below_first heights falls zero l = omega arith
below_first heights falls (suc k) l =
    let next : k + 1 ≡ suc k = omega arith in
    let falling : get_or heights (suc k) 0 < get_or heights k 0 =
    subst (λ n. get_or heights n 0 < get_or heights k 0) next (falls k (omega (arith, l))) in
    omega (arith, falling, below_first heights falls k (omega (arith, l)))

-- the rounds lead down no further than from the tallest
pub rounds_within : (heights : List ℕ) (final cap : ℕ) (rounds : List ℕ)
    → rounds ≡ schedule heights final cap
    → (final < tallest heights → LeadsDown heights final rounds) → sum rounds ≤ tallest heights
rounds_within [] final cap rounds is leads = omega (arith, ap sum (is ∙ schedule-nil final cap))
rounds_within (top ∷ further) final cap rounds is leads = elim (cases_lt final top) [
  | inl l ↦ omega (arith, (leads l).total)
  | inr l ↦ omega (arith, ap sum (is ∙ schedule-low top further final cap l))
]
