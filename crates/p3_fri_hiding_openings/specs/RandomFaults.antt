-- What of the claims and the random values makes a refusal to append them a true one.
use Rattle.std.specs.Prelude.{◌≡◌, ◌<◌, ◌≤◌, ℕ, List, length, Option, Some, ⊤}
use Rattle.std.specs.List.{zip}
use Rattle.p3_fri_masks.specs.Budget.{required_height}
use Rattle.p3_fri_pow.specs.Counts.{IsWrongCount}
use Rattle.p3_fri_relation.specs.declared.error.FriError.{FriError}
use Rattle.p3_fri_relation.specs.declared.error.FriError as refusal
use refusal.TheVariants.{HidingRandomOpeningRoundCountMismatch}
use refusal.TheVariants.{HidingRandomOpeningMatrixCountMismatch}
use refusal.TheVariants.{HidingRandomOpeningPointCountMismatch}
use refusal.TheVariants.{HidingRandomOpeningValueCountMismatch}
use refusal.TheVariants.{HidingPreprocessedCommitmentOutOfBounds}
use refusal.TheVariants.{InsufficientHidingRandomCodewords, HidingBudgetExceeded, OutOfMemory}
use Rattle.p3_fri_relation.specs.Setting.{MatrixClaim, CommitmentClaim}
use Rattle.p3_fri_relation.specs.Faults.{At}
use Rattle.p3_fri_hiding_openings.specs.RandomValues.{count_at, mask_height}

-- what a relation says of a matrix and its random values, of which so many stand at each point
abbrev pub OfMatrix : Type 0 → Type 1
OfMatrix E = (count : ℕ) → MatrixClaim E → List (List E) → Type 0

module _ {A B E : Type 0} (num_queries degree : ℕ)
    (AtMatrix : (round matrix : ℕ) → OfMatrix E → Type 0) where
  -- of a matrix, where `AtMatrix` says what holds of the one at these places
  abbrev pub MatrixFaults : FriError A B → Type 0
  MatrixFaults (HidingBudgetExceeded round matrix height queries points dimensions) =
      (queries ≡ num_queries) × (dimensions ≡ degree) × AtMatrix round matrix (λ count m random.
      (height ≡ mask_height m) × (points ≡ length m.points)
      × (height < required_height queries dimensions points))
  MatrixFaults (HidingRandomOpeningPointCountMismatch round matrix expected got) =
      AtMatrix round matrix (λ count m random.
      IsWrongCount (length m.points) (length random) expected got)
  MatrixFaults (HidingRandomOpeningValueCountMismatch round matrix point expected got) =
      AtMatrix round matrix (λ count m random.
      At point (λ values. IsWrongCount count (length values) expected got) random)
  MatrixFaults OutOfMemory = ⊤
  MatrixFaults _ = ⊥

module _ {E Com : Type 0} (num_random : ℕ) (preprocessing : Option ℕ)
    (claims : List (CommitmentClaim E Com)) (random : List (List (List (List E)))) where
  -- at these places stand a claimed matrix and random values of which this holds
  abbrev pub AtMatrixOf : (round matrix : ℕ) → OfMatrix E → Type 0
  AtMatrixOf round matrix Holds = At round (λ (c, matrices). At matrix (λ (m, points).
      Holds (count_at num_random preprocessing round) m points)
      (zip c.matrices matrices)) (zip claims random)

module _ {A B E Com : Type 0} (num_random num_queries degree : ℕ) (preprocessing : Option ℕ)
    (claims : List (CommitmentClaim E Com)) (random : List (List (List (List E)))) where
  -- of claims and random values that are to be appended
  abbrev pub HidingFaults : FriError A B → Type 0
  HidingFaults (HidingPreprocessedCommitmentOutOfBounds index num_rounds) =
      (preprocessing ≡ Some index) × (num_rounds ≡ length claims) × (num_rounds ≤ index)
  HidingFaults (InsufficientHidingRandomCodewords required got) =
      (required ≡ degree) × (got ≡ num_random) × (got < required)
  HidingFaults (HidingRandomOpeningRoundCountMismatch expected got) =
      IsWrongCount (length claims) (length random) expected got
  HidingFaults (HidingRandomOpeningMatrixCountMismatch round expected got) =
      At round (λ (c, matrices).
      IsWrongCount (length c.matrices) (length matrices) expected got) (zip claims random)
  HidingFaults e =
      MatrixFaults num_queries degree (AtMatrixOf num_random preprocessing claims random) e
