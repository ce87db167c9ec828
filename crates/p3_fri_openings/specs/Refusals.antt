-- Why a prover refuses to open: heights, and points in the evaluation coset.
use Rattle.std.specs.Prelude.{◌≡◌, ℕ, List, All}
use Rattle.algebra.specs.Cosets.{IsOnCoset, IsOffCoset}
use Rattle.p3_fri_folding.specs.declared.error.FriProverError.{FriProverError}
use Rattle.p3_fri_folding.specs.declared.error.FriProverError.TheVariants.{PointInEvaluationDomain}
use Rattle.p3_matrix.specs.declared.dense.RowMajorMatrix.{RowMajorMatrix}
use Rattle.p3_fri_relation.specs.TallEnough.{IsTallEnough, HeightRefusal}
use Rattle.p3_fri_relation.specs.Setting.{Fields, Parameters}
use Rattle.p3_fri_openings.specs.declared.round.OpeningRound.{OpeningRound}
use Rattle.p3_fri_openings.specs.First.{FirstAt}
use Rattle.p3_fri_openings.specs.Rounds.{Asked, asked_in, log_height}

module _ (p : Parameters) {F : Type 0} where
  abbrev pub AreTallEnough : List (RowMajorMatrix F) → Type 0
  AreTallEnough matrices = All (λ m. IsTallEnough p (log_height m)) matrices

  -- why a round is refused: by the first of its matrices that is too low
  pub record RoundHeightRefusal (e : FriProverError) (matrices : List (RowMajorMatrix F)) : Type 0
    where
      pub matrix : ℕ
      pub first : FirstAt (λ m. IsTallEnough p (log_height m))
          (λ m. HeightRefusal p (log_height m) e) matrices matrix

module _ {F E : Type 0} (f : Fields F E) where
  -- `z` lies in the evaluation coset of log height `h`, or doesn't
  abbrev pub IsOn : (h : ℕ) → (z : E) → Type 0
  IsOn h z = IsOnCoset f.base f.lift f.root f.shift h z

  abbrev pub IsOff : (h : ℕ) → (z : E) → Type 0
  IsOff h z = IsOffCoset f.base f.lift f.root f.shift h z

  -- no point of a matrix lies in its coset; or of a round
  abbrev pub HasPointsOff : Asked F E → Type 0
  HasPointsOff a = All (IsOff (log_height a.matrix)) a.points

  abbrev pub ArePointsOff : OpeningRound F E → Type 0
  ArePointsOff round = All HasPointsOff (asked_in round)

  -- of a matrix's points this is the first one in its coset
  abbrev pub IsFirstPoint : (point : ℕ) → Asked F E → Type 0
  IsFirstPoint point a =
      FirstAt (IsOff (log_height a.matrix)) (IsOn (log_height a.matrix)) a.points point

  -- of a round's
  abbrev pub IsFirstInRound : (matrix point : ℕ) → OpeningRound F E → Type 0
  IsFirstInRound matrix point round =
      FirstAt HasPointsOff (IsFirstPoint point) (asked_in round) matrix

  -- of all the points, round by round, matrix by matrix
  abbrev pub IsFirstOfAll : (round matrix point : ℕ) → List (OpeningRound F E) → Type 0
  IsFirstOfAll round matrix point rounds =
      FirstAt ArePointsOff (IsFirstInRound matrix point) rounds round

  -- the refusal names the first point that lies in its matrix's coset
  abbrev pub PointRefusal : List (OpeningRound F E) → FriProverError → Type 0
  PointRefusal rounds (PointInEvaluationDomain round matrix point) =
      IsFirstOfAll round matrix point rounds
  PointRefusal rounds _ = ⊥

  -- the same for one round, whose index is known
  abbrev pub RoundPointRefusal : (round : ℕ) → OpeningRound F E → FriProverError → Type 0
  RoundPointRefusal index round (PointInEvaluationDomain r matrix point) =
      (r ≡ index) × IsFirstInRound matrix point round
  RoundPointRefusal index round _ = ⊥
