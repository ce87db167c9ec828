-- When a scheme that hides opens, and why it refuses to.
use Rattle.std.specs.Prelude.{ℕ, ◌/◌, ◌^◌, List, map, length, All, ⊤}
use Rattle.p3_matrix.specs.declared.dense.RowMajorMatrix.{RowMajorMatrix}
use Rattle.p3_matrix.specs.Matrix.{rows}
use Rattle.p3_pcs.specs.Requests.{Request}
use Rattle.p3_fri_folding.specs.declared.error.FriProverError.TheVariants.{NoPowWitness, OutOfMemory}
use Rattle.p3_fri_folding.specs.declared.error.FriProverError.TheVariants.{PointInEvaluationDomain}
use Rattle.p3_fri_relation.specs.Setting.{Fields, Parameters}
use Rattle.p3_fri_relation.specs.TallEnough.{IsTallEnough, HeightRefusal}
use Rattle.p3_fri_openings.specs.First.{FirstAt}
use Rattle.p3_fri_openings.specs.Rounds.{Asked, log_height}
use Rattle.p3_fri_opening_prover.specs.Setting.{OpeningSetting}
use Rattle.p3_fri_opening_prover.specs.Refusals.{PassesChecks, RequestsStop, LeavesState}
use Rattle.p3_fri_opening_prover.specs.Refusals.{asked_of, IsFirstOn}
use Rattle.p3_fri_masks.specs.declared.error.HidingFriProverError.{HidingFriProverError}
use Rattle.p3_fri_masks.specs.declared.error.HidingFriProverError.TheVariants.{Fri}
use Rattle.p3_fri_masks.specs.Budget.{FitsBudget, BudgetRefusal}
use Rattle.p3_fri_hiding_openings.specs.declared.data.HidingFriPcsProverData.{HidingFriPcsProverData}
use Rattle.p3_fri_hiding_openings.specs.Requests.{inside}

-- the height of the masks in a committed matrix: half of that of what was extended to it
abbrev pub mask_height : {F : Type 0} → (log_blowup : ℕ) → RowMajorMatrix F → ℕ
mask_height log_blowup matrix = length (rows matrix) / 2 ^ log_blowup / 2

module _ {F E : Type 0} (f : Fields F E) (p : Parameters) (num_random_codewords : ℕ) where
  -- a matrix's masks meet the budget for the points at which it is opened
  abbrev pub MeetsBudget : Asked F E → Type 0
  MeetsBudget a =
      FitsBudget num_random_codewords p.num_queries f.degree (mask_height p.log_blowup a.matrix)
      (length a.points)

  -- a matrix may be opened at these points: it is tall enough, and its masks hide what is opened
  pub record CanHide (a : Asked F E) : Type 0 where
    pub height : IsTallEnough p (log_height a.matrix)
    pub budget : MeetsBudget a

  -- why it may not: its height comes first
  abbrev pub MatrixRefusal : HidingFriProverError → Asked F E → Type 0
  MatrixRefusal (Fri e) a = (¬ CanHide a) × HeightRefusal p (log_height a.matrix) e
  MatrixRefusal e a =
      (¬ CanHide a) × IsTallEnough p (log_height a.matrix)
      × BudgetRefusal num_random_codewords p.num_queries f.degree
      (mask_height p.log_blowup a.matrix) (length a.points) e

  -- of a round's matrices, the first that may not be opened
  pub record RoundRefusal (e : HidingFriProverError) (asked : List (Asked F E)) : Type 0 where
    pub matrix : ℕ
    pub first : FirstAt CanHide (MatrixRefusal e) asked matrix

  module _ {T : Type 0} (committed : T → List (RowMajorMatrix F)) where
    -- each matrix of the requests may be opened; or this is why the first may not that may not
    abbrev pub AllCanHide : List (Request T E) → Type 0
    AllCanHide requests = All (λ q. All CanHide (asked_of committed q)) requests

    pub record IsFirstRefused (e : HidingFriProverError) (requests : List (Request T E)) : Type 0
      where
        pub round : ℕ
        pub first : FirstAt (λ q. All CanHide (asked_of committed q))
            (λ q. RoundRefusal e (asked_of committed q)) requests round

    -- what is asked of requests before a challenger is touched: the plain scheme's checks of what
    -- is inside, and that all masks meet the budget
    pub record PassesHidingChecks (requests : List (Request (HidingFriPcsProverData T) E))
        : Type 0 where
      pub checks : PassesChecks f p committed (map inside requests)
      pub budgets : All (λ q. All MeetsBudget (asked_of committed q)) (map inside requests)

    -- why the checks refuse: the first matrix that may not be opened or, where each may, the first
    -- point in a coset
    abbrev pub HidingCheckRefusal : List (Request (HidingFriPcsProverData T) E)
        → HidingFriProverError → Type 0
    HidingCheckRefusal requests (Fri (PointInEvaluationDomain round matrix point)) =
        AllCanHide (map inside requests)
        × IsFirstOn committed f round matrix point (map inside requests)
    HidingCheckRefusal requests (Fri (NoPowWitness phase)) = ⊥
    HidingCheckRefusal requests (Fri OutOfMemory) = ⊥
    HidingCheckRefusal requests e = IsFirstRefused e (map inside requests)

-- with so many random codewords
module _ {F E C D Data Com Path InCom InPath : Type 0}
    (r : OpeningSetting F E C D Data Com Path InCom InPath) (num_random_codewords : ℕ) (c : C)
    (requests : List (Request (HidingFriPcsProverData D) E)) where
  -- why requests aren't opened from the challenger's state `c` on: the checks refuse them, which
  -- comes first, or those that pass are stopped by a proof of work or for want of memory
  abbrev pub HidingRefusal : HidingFriProverError → Type 0
  HidingRefusal (Fri OutOfMemory) = PassesHidingChecks r.setting.fields r.parameters
      num_random_codewords r.committed requests
  HidingRefusal (Fri (NoPowWitness phase)) =
      PassesHidingChecks r.setting.fields r.parameters num_random_codewords r.committed requests
      × RequestsStop r c (map inside requests) (NoPowWitness phase)
  HidingRefusal e = HidingCheckRefusal r.setting.fields r.parameters num_random_codewords
      r.committed requests e

-- the refusals that leave the challenger, and what counts as opened, as they were
abbrev pub LeavesHidingState : HidingFriProverError → Type 0
LeavesHidingState (Fri e) = LeavesState e
LeavesHidingState _ = ⊤
