-- The matrices that a prover opens, and the points at which it does.
use Rattle.std.specs.Prelude.{◌≡◌, ◌≤◌, ℕ, List, length, All}
use Rattle.std.specs.List.{Any}
use Rattle.std.specs.Int.{IsPowerOfTwo}
use Rattle.algebra.specs.Nested.{lists}
use Rattle.p3_matrix.specs.declared.dense.RowMajorMatrix.{RowMajorMatrix}
use Rattle.p3_matrix.specs.Matrix.{rows}
use Rattle.p3_pcs.specs.Claims.{zip_with}
use Rattle.p3_fri_openings.specs.declared.round.OpeningRound.{OpeningRound}
use Rattle.p3_fri_openings.specs.Log2.{log2}

-- the logarithm of a matrix's height
abbrev pub log_height : {F : Type 0} → RowMajorMatrix F → ℕ
log_height matrix = log2 (length (rows matrix))

-- the height is a power of two, of which the field has a coset
pub record HasCoset {F : Type 0} (two_adicity : ℕ) (matrix : RowMajorMatrix F) : Type 0 where
  pub power : IsPowerOfTwo (length (rows matrix))
  pub within : log_height matrix ≤ two_adicity

-- a committed matrix, and the points at which it is to be opened
pub record Asked (F E : Type 0) : Type 0 where
  pub matrix : RowMajorMatrix F
  pub points : List E

module _ {F E : Type 0} where
  abbrev pub ask : RowMajorMatrix F → List E → Asked F E
  ask matrix points = record { matrix = matrix; points = points }

  -- the matrices of a round with their points
  abbrev pub asked_in : OpeningRound F E → List (Asked F E)
  asked_in round = zip_with ask round.matrices.now (lists round.points.now)

  -- some matrix of a round has this log height
  abbrev pub HasHeight : ℕ → OpeningRound F E → Type 0
  HasHeight height round = Any (λ m. log_height m ≡ height) round.matrices.now

  -- a round that may be opened, over a field of this two-adicity: one list of points for each
  -- matrix, and each on a coset
  pub record IsRound (two_adicity : ℕ) (round : OpeningRound F E) : Type 0 where
    pub lists_of_points : length round.points.now ≡ length round.matrices.now
    pub cosets : All (HasCoset two_adicity) round.matrices.now
