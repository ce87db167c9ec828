-- The points at which matrices are opened, with the matrices' heights.
use Rattle.std.specs.Prelude.{◌≡◌, ◌≤◌, ℕ, List, length, map, All, Contains}
use Rattle.std.specs.List.{flat_map}
use Rattle.p3_matrix.specs.Matrix.{rows}
use Rattle.p3_fri_openings.specs.declared.asked_points.AskedPoint.{AskedPoint}
use Rattle.p3_fri_openings.specs.declared.round.OpeningRound.{OpeningRound}
use Rattle.p3_fri_openings.specs.Rounds.{Asked, asked_in}

module _ {E : Type 0} where
  -- the point `z`, at which a matrix of height `n` is opened
  abbrev pub asked_point : (n : ℕ) → (z : E) → AskedPoint E
  asked_point n z = record { point = z; height = n }

  -- the tallest of the matrices that are opened at `z` has height `n`
  pub record IsTallest (asked : List (AskedPoint E)) (z : E) (n : ℕ) : Type 0 where
    pub asked_there : Contains asked (asked_point n z)
    pub none_above : All (λ a. a.point ≡ z → a.height ≤ n) asked

  module _ {F : Type 0} where
    -- the points of a matrix, each with the matrix's height
    abbrev pub points_of : Asked F E → List (AskedPoint E)
    points_of a = map (asked_point (length (rows a.matrix))) a.points

    -- of a round's matrices
    abbrev pub points_in : OpeningRound F E → List (AskedPoint E)
    points_in round = flat_map points_of (asked_in round)

    -- of all
    abbrev pub asked_points : List (OpeningRound F E) → List (AskedPoint E)
    asked_points rounds = flat_map points_in rounds
