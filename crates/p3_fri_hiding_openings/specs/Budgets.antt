-- The budget of all that is committed to at once, by the heights of the masks.
use Rattle.std.specs.Prelude.{ℕ, List, All}
use Rattle.std.specs.List.{Any}
use Rattle.p3_fri_folding.specs.declared.error.FriProverError.TheVariants.{OutOfMemory}
use Rattle.p3_fri_masks.specs.declared.error.HidingFriProverError.{HidingFriProverError}
use Rattle.p3_fri_masks.specs.declared.error.HidingFriProverError.TheVariants.{Fri}
use Rattle.p3_fri_masks.specs.Budget.{FitsBudget, BudgetRefusal}

module _ (num_random_codewords num_queries degree : ℕ) where
  -- masks of each of these heights meet the budget for one opening point
  abbrev pub AllFit : (heights : List ℕ) → Type 0
  AllFit heights = All (λ h. FitsBudget num_random_codewords num_queries degree h 1) heights

  -- the refusal is true of masks of one of these heights
  abbrev pub SomeDoesNotFit : (heights : List ℕ) → HidingFriProverError → Type 0
  SomeDoesNotFit heights e =
      Any (λ h. BudgetRefusal num_random_codewords num_queries degree h 1 e) heights

  -- why masks of these heights are refused: memory is wanted where all fit, and a budget refuses
  -- where it isn't met
  abbrev pub MaskRefusal : (heights : List ℕ) → HidingFriProverError → Type 0
  MaskRefusal heights (Fri OutOfMemory) = AllFit heights
  MaskRefusal heights e = SomeDoesNotFit heights e
