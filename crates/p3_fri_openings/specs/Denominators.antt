-- Tables of inverse differences.
use Rattle.std.specs.Prelude.{◌≡◌, ◌≤◌, ◌<◌, ◌^◌, ◌⊎◌, ℕ, List, length, map, All, vec_len}
use Rattle.std.specs.List.{Any, HoldsAt}
use Rattle.algebra.specs.Interpolation.{AreDistinct}
use Rattle.p3_field_core.specs.Coset.{bit_reversed_points}
use Rattle.p3_matrix.specs.Matrix.{rows}
use Rattle.p3_fri_relation.specs.Setting.{Fields}
use Rattle.p3_fri_openings.specs.declared.asked_points.AskedPoint.{AskedPoint}
use Rattle.p3_fri_openings.specs.declared.denominators.PointDenominators.{PointDenominators}
use Rattle.p3_fri_openings.specs.declared.round.OpeningRound.{OpeningRound}
use Rattle.p3_fri_openings.specs.Rounds.{Asked, HasHeight, asked_in, log_height}
use Rattle.p3_fri_openings.specs.Points.{asked_point, IsTallest}
use Rattle.p3_fri_openings.specs.Refusals.{IsOff}
use Rattle.p3_fri_openings.specs.Committed.{coset_of, inverse_differences}
use Rattle.p3_fri_openings.specs.Sums.{StartsWith}

module _ {F E : Type 0} (f : Fields F E) where
  -- the inverse differences of the entry's point and the coset of some log height
  pub record AreInverses (entry : PointDenominators E) : Type 0 where
    pub log_height : ℕ
    pub within : log_height ≤ f.two_adicity
    pub inverses_are : entry.inverses.items ≡ inverse_differences f entry.point (2 ^ log_height)

-- some entry is of the point `z`, for a coset of at least `n` points
pub record IsCovered {E : Type 0} (n : ℕ) (table : List (PointDenominators E)) (z : E)
    : Type 0 where
  pub place : ℕ
  pub within : place < length table
  pub tall : HoldsAt (λ entry. n ≤ vec_len entry.inverses) table place
  pub point : HoldsAt (λ entry. entry.point ≡ z) table place

module _ {E : Type 0} where
  -- the points of a table's entries
  abbrev pub points_of_table : List (PointDenominators E) → List E
  points_of_table table = map (λ entry. entry.point) table

  -- an entry's point, with the number of points of its coset
  abbrev pub size_of : PointDenominators E → AskedPoint E
  size_of entry = asked_point (vec_len entry.inverses) entry.point

  -- each point of a matrix is covered for its height; or of a round's matrices
  abbrev pub HasPointsCovered : {F : Type 0} → List (PointDenominators E) → Asked F E → Type 0
  HasPointsCovered table a = All (IsCovered (length (rows a.matrix)) table) a.points

  abbrev pub ArePointsCovered : {F : Type 0} → List (PointDenominators E) → OpeningRound F E
      → Type 0
  ArePointsCovered table round = All (HasPointsCovered table) (asked_in round)

module _ {F E : Type 0} (f : Fields F E) where
  -- `coset` begins with the evaluation coset of each of a round's matrices
  abbrev pub HoldsCosets : (coset : List F) → OpeningRound F E → Type 0
  HoldsCosets coset round =
      All (λ matrix. StartsWith coset (coset_of f (length (rows matrix)))) round.matrices.now

  -- the evaluation coset of the greatest log height of the rounds' matrices, in bit-reversed order,
  -- and of one point where there is no matrix
  pub record IsGreatestCoset (coset : List F) (rounds : List (OpeningRound F E)) : Type 0 where
    pub log_size : ℕ
    pub greatest : All (λ r. All (λ m. log_height m ≤ log_size) r.matrices.now) rounds
    pub attained : (log_size ≡ 0) ⊎ Any (HasHeight log_size) rounds
    pub points : coset ≡ bit_reversed_points f.base (f.root log_size) f.shift log_size

  -- the point lies off the coset of the matrix's height, with which `coset` begins
  pub record HasDenominators (coset : List F) (asked : AskedPoint E) : Type 0 where
    pub log_height : ℕ
    pub height : asked.height ≡ 2 ^ log_height
    pub within : log_height ≤ f.two_adicity
    pub off : IsOff f log_height asked.point
    pub start : StartsWith coset (coset_of f asked.height)

  -- a table for some of the points asked: one entry for each, for the tallest matrix opened there
  pub record IsTableFor (asked : List (AskedPoint E)) (table : List (PointDenominators E))
      : Type 0 where
    pub inverses : All (AreInverses f) table
    pub distinct : AreDistinct (points_of_table table)
    pub tallest : All (λ entry. IsTallest asked entry.point (vec_len entry.inverses)) table
