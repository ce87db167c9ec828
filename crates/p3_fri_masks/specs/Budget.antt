-- How many masks hide what is opened.
use Rattle.std.specs.Prelude.{◌≡◌, ◌<◌, ◌≤◌, ◌+◌, ◌*◌, ◌^◌, ℕ, max}
use Rattle.p3_fri_masks.specs.declared.error.HidingFriProverError.{HidingFriProverError}
use Rattle.p3_fri_masks.specs.declared.error.HidingFriProverError.TheVariants.{
  Fri,
  InsufficientRandomCodewords,
  BudgetOverflow,
  HidingBudgetExceeded,
}

-- twice the number of values that are opened: one at each query, and as many as the extension's
-- degree at each point, where one point is counted at least
abbrev pub required_height : (num_queries degree num_points : ℕ) → ℕ
required_height num_queries degree num_points = 2 * (num_queries + degree * max num_points 1)

-- there are as many random codewords as the extension's degree, and enough masks
pub record FitsBudget (num_random_codewords num_queries degree mask_height num_points : ℕ)
    : Type 0 where
  pub codewords : degree ≤ num_random_codewords
  pub height : required_height num_queries degree num_points ≤ mask_height

-- the refusal is a true one: too few codewords, or with enough of them a height that no number of
-- 64 bits is, or one that isn't reached
abbrev pub BudgetRefusal : (num_random_codewords num_queries degree mask_height num_points : ℕ)
    → HidingFriProverError → Type 0
BudgetRefusal r q d h n (Fri refusal) = ⊥
BudgetRefusal r q d h n (InsufficientRandomCodewords required got) =
    (required ≡ d) × (got ≡ r) × (r < d)
BudgetRefusal r q d h n BudgetOverflow = (d ≤ r) × (2 ^ 64 ≤ required_height q d n)
BudgetRefusal r q d h n (HidingBudgetExceeded mask_height num_queries num_points degree) =
    (mask_height ≡ h) × (num_queries ≡ q) × (num_points ≡ n) × (degree ≡ d) × (d ≤ r)
    × (required_height q d n < 2 ^ 64) × (h < required_height q d n)
