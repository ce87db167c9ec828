-- When a prover of openings refuses.
use Rattle.std.specs.Prelude.{ℕ, List, map, All, ⊤}
use Rattle.algebra.specs.Nested.{joined}
use Rattle.p3_matrix.specs.declared.dense.RowMajorMatrix.{RowMajorMatrix}
use Rattle.p3_pcs.specs.Claims.{zip_with}
use Rattle.p3_pcs.specs.Requests.{Request, honest_values}
use Rattle.p3_fri_folding.specs.declared.error.FriProverError.{FriProverError}
use Rattle.p3_fri_folding.specs.declared.error.FriProverError.TheVariants.{InputHeightTooSmall}
use Rattle.p3_fri_folding.specs.declared.error.FriProverError.TheVariants.{FinalHeightOverflow}
use Rattle.p3_fri_folding.specs.declared.error.FriProverError.TheVariants.{PointInEvaluationDomain}
use Rattle.p3_fri_folding.specs.declared.error.FriProverError.TheVariants.{NoPowWitness, OutOfMemory}
use Rattle.p3_fri_relation.specs.Setting.{Fields, Parameters}
use Rattle.p3_fri_openings.specs.First.{FirstAt}
use Rattle.p3_fri_openings.specs.Rounds.{Asked, ask}
use Rattle.p3_fri_openings.specs.Refusals.{AreTallEnough, RoundHeightRefusal}
use Rattle.p3_fri_openings.specs.Refusals.{HasPointsOff, IsFirstPoint}
use Rattle.p3_fri_completeness.specs.Requests.{round_opened}
use Rattle.p3_fri_opening_prover.specs.Setting.{OpeningSetting, held}
use Rattle.p3_fri_opening_prover.specs.Opening.{OpeningStops}

module _ {F E D : Type 0} (committed : D → List (RowMajorMatrix F)) where
  -- the matrices of a request with their points
  abbrev pub asked_of : Request D E → List (Asked F E)
  asked_of r = zip_with ask (committed r.datum) r.points

  -- the first matrix that is refused for its height
  pub record IsFirstLow (p : Parameters) (e : FriProverError) (requests : List (Request D E))
      : Type 0 where
    pub round : ℕ
    pub first : FirstAt (λ r. AreTallEnough p (committed r.datum))
        (λ r. RoundHeightRefusal p e (committed r.datum)) requests round

  module _ (f : Fields F E) where
    -- the first point that lies in its coset
    abbrev pub IsFirstOn : (round matrix point : ℕ) → List (Request D E) → Type 0
    IsFirstOn round matrix point requests =
        FirstAt (λ r. All (HasPointsOff f) (asked_of r))
        (λ r. FirstAt (HasPointsOff f) (IsFirstPoint f point) (asked_of r) matrix) requests round

    abbrev pub PointsRefusal : List (Request D E) → FriProverError → Type 0
    PointsRefusal requests (PointInEvaluationDomain round matrix point) =
        IsFirstOn round matrix point requests
    PointsRefusal requests _ = ⊥

module _ {F E D : Type 0} (f : Fields F E) (p : Parameters)
    (committed : D → List (RowMajorMatrix F)) where
  -- each matrix is tall enough, and no point lies in its evaluation coset
  pub record PassesChecks (requests : List (Request D E)) : Type 0 where
    pub heights : All (λ r. AreTallEnough p (committed r.datum)) requests
    pub points : All (λ r. All (HasPointsOff f) (asked_of committed r)) requests

  -- why the checks refuse: the first matrix that is too low or, where none is, the first point in
  -- a coset
  abbrev pub CheckRefusal : List (Request D E) → FriProverError → Type 0
  CheckRefusal requests (PointInEvaluationDomain round matrix point) =
      All (λ r. AreTallEnough p (committed r.datum)) requests
      × IsFirstOn committed f round matrix point requests
  CheckRefusal requests (InputHeightTooSmall h final) =
      IsFirstLow committed p (InputHeightTooSmall h final) requests
  CheckRefusal requests FinalHeightOverflow = IsFirstLow committed p FinalHeightOverflow requests
  CheckRefusal requests (NoPowWitness phase) = ⊥
  CheckRefusal requests OutOfMemory = ⊥

  -- why requests aren't gathered: the checks refuse them, or memory is refused to those that pass
  abbrev pub GatherRefusal : List (Request D E) → FriProverError → Type 0
  GatherRefusal requests OutOfMemory = PassesChecks requests
  GatherRefusal requests e = CheckRefusal requests e

module _ {F E C D Data Com Path InCom InPath : Type 0}
    (r : OpeningSetting F E C D Data Com Path InCom InPath) (c : C)
    (requests : List (Request D E)) where
  -- why requests that pass the checks aren't opened from the challenger's state `c` on
  abbrev pub RequestsStop : FriProverError → Type 0
  RequestsStop e = OpeningStops r
      (joined (map (round_opened r.setting.fields r.committed r.parameters.log_blowup) requests))
      (map (honest_values (held r)) requests) c e

  -- why requests aren't opened: the checks refuse them, which comes first, or what stops those that
  -- pass
  abbrev pub OpenRefusal : FriProverError → Type 0
  OpenRefusal (NoPowWitness phase) =
      PassesChecks r.setting.fields r.parameters r.committed requests
      × RequestsStop (NoPowWitness phase)
  OpenRefusal e = GatherRefusal r.setting.fields r.parameters r.committed requests e

-- the refusals that leave a prover's challenger as it was
abbrev pub LeavesState : FriProverError → Type 0
LeavesState (InputHeightTooSmall h final) = ⊤
LeavesState FinalHeightOverflow = ⊤
LeavesState (PointInEvaluationDomain round matrix point) = ⊤
LeavesState _ = ⊥
