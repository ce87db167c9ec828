-- The random values of a proof that hides, nested as the claims are: how many stand where, and the
-- claims with these values appended.
use Rattle.std.specs.Prelude.{◌≡◌, ◌==◌, ◌<◌, ◌≤◌, ◌/◌, ◌^◌, ℕ, if◌then◌else◌}
use Rattle.std.specs.Prelude.{List, ◌++◌, map, length, All, Option, Some, None, IfSome}
use Rattle.std.specs.List.{AllZip, enumerate_from}
use Rattle.p3_mmcs.specs.declared.openings.CommitmentOpening.{CommitmentOpening}
use Rattle.p3_pcs.specs.Claims.{zip_with}
use Rattle.p3_fri_masks.specs.Budget.{required_height}
use Rattle.p3_pcs.specs.Claims.{PointClaim}
use Rattle.p3_fri_relation.specs.Setting.{MatrixClaim, CommitmentClaim}
use Rattle.p3_fri_relation.specs.Views.{matrix_claim}

-- the claims of a commitment, as the relation sees them
abbrev pub commitment_claim : {E Com Domain : Type 0} → (log_size : Domain → ℕ)
    → CommitmentOpening E Com Domain → CommitmentClaim E Com
commitment_claim log_size c = record {
  commitment = c.commitment;
  matrices = map (matrix_claim log_size) c.matrices.items;
}

-- how many random values stand at each point of a commitment's matrices, by its index: one for each
-- random column, and none in the preprocessed commitment
abbrev pub count_at : (num_random : ℕ) (preprocessing : Option ℕ) (round : ℕ) → ℕ
count_at num_random None round = num_random
count_at num_random (Some index) round = if index == round then 0 else num_random

-- the mask of a matrix is half as high as its domain is large
abbrev pub mask_height : {E : Type 0} → MatrixClaim E → ℕ
mask_height m = 2 ^ m.domain / 2

module _ {E : Type 0} where
  -- the values claimed at a point, with these after them
  abbrev pub with_values : PointClaim E → List E → PointClaim E
  with_values z random = record z { values = z.values ++ random }

  -- and at each point of a matrix
  abbrev pub with_points : MatrixClaim E → List (List E) → MatrixClaim E
  with_points m random = record m { points = zip_with with_values m.points random }

  -- at each of a matrix's points stand this many random values
  abbrev pub NestInMatrix : (count : ℕ) → MatrixClaim E → List (List E) → Type 0
  NestInMatrix count m random = AllZip (λ z values. length values ≡ count) m.points random

  -- the mask of a matrix is high enough for the points at which the matrix is opened
  abbrev pub MeetsBudget : (num_queries degree : ℕ) → MatrixClaim E → Type 0
  MeetsBudget num_queries degree m =
      required_height num_queries degree (length m.points) ≤ mask_height m

-- both of a matrix and its random values
pub record FitsMatrix {E : Type 0} (num_queries degree count : ℕ) (m : MatrixClaim E)
    (random : List (List E)) : Type 0 where
  pub budget : MeetsBudget num_queries degree m
  pub nest : NestInMatrix count m random

module _ {E Com : Type 0} where
  -- a commitment's claims with random values
  abbrev pub with_matrices : CommitmentClaim E Com → List (List (List E)) → CommitmentClaim E Com
  with_matrices c random = record c { matrices = zip_with with_points c.matrices random }

  -- the claims with the random values appended, point by point
  abbrev pub with_random_values : List (CommitmentClaim E Com) → List (List (List (List E)))
      → List (CommitmentClaim E Com)
  with_random_values claims random = zip_with with_matrices claims random

  -- the random values nest as the claims do, as many at each point as its commitment asks for
  abbrev pub NestAlike : (num_random : ℕ) (preprocessing : Option ℕ)
      → List (CommitmentClaim E Com) → (random : List (List (List (List E)))) → Type 0
  NestAlike num_random preprocessing claims random = AllZip
      (λ (round, c) matrices.
      AllZip (NestInMatrix (count_at num_random preprocessing round)) c.matrices matrices)
      (enumerate_from 0 claims) random

  -- and of each matrix under each commitment
  abbrev pub FitRounds : (num_random num_queries degree : ℕ) (preprocessing : Option ℕ)
      → List (CommitmentClaim E Com) → (random : List (List (List (List E)))) → Type 0
  FitRounds num_random num_queries degree preprocessing claims random = AllZip
      (λ (round, c) matrices.
      AllZip (FitsMatrix num_queries degree (count_at num_random preprocessing round))
      c.matrices matrices)
      (enumerate_from 0 claims) random

  -- random values may be appended: the preprocessed commitment, if there is one, is among those
  -- claimed, there are as many random columns as the extension has dimensions, each matrix has a
  -- mask that hides what is opened of it, and the values nest as the claims do
  pub record MayAppend (num_random num_queries degree : ℕ) (preprocessing : Option ℕ)
      (claims : List (CommitmentClaim E Com)) (random : List (List (List (List E)))) : Type 0 where
    pub among_claims : IfSome preprocessing (λ index. index < length claims)
    pub enough_columns : degree ≤ num_random
    pub budgets : All (λ c. All (MeetsBudget num_queries degree) c.matrices) claims
    pub nest : NestAlike num_random preprocessing claims random
