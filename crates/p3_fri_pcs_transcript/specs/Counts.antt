-- How many values are opened or claimed at each point, and the values in order.
use Rattle.std.specs.Prelude.{ℕ, List, length, map, Vec}
use Rattle.std.specs.Global.{Global}
use Rattle.std.specs.List.{flat_map}
use Rattle.algebra.specs.Nested.{lists, joined}
use Rattle.p3_mmcs.specs.declared.openings.PointOpening.{PointOpening}
use Rattle.p3_mmcs.specs.declared.openings.MatrixOpening.{MatrixOpening}
use Rattle.p3_mmcs.specs.declared.openings.CommitmentOpening.{CommitmentOpening}

-- values that a prover opens, nested by commitment, matrix and point
module _ {E : Type 0} where
  abbrev pub counts_at_points : List (Vec E Global) → List ℕ
  counts_at_points points = map (λ values. length values.items) points

  abbrev pub counts_in_matrices : List (Vec (Vec E Global) Global) → List (List ℕ)
  counts_in_matrices matrices = map (λ points. counts_at_points points.items) matrices

  -- how many values there are, by commitment, matrix and point
  abbrev pub counts_of_values : List (Vec (Vec (Vec E Global) Global) Global) → List (List (List ℕ))
  counts_of_values commitments = map (λ matrices. counts_in_matrices matrices.items) commitments

  abbrev pub lists_in_matrices : List (Vec (Vec E Global) Global) → List (List E)
  lists_in_matrices matrices = flat_map (λ points. lists points.items) matrices

  -- the list of values at each point, in order
  abbrev pub lists_of_values : List (Vec (Vec (Vec E Global) Global) Global) → List (List E)
  lists_of_values commitments = flat_map (λ matrices. lists_in_matrices matrices.items) commitments

  -- all values, in order
  abbrev pub all_values : List (Vec (Vec (Vec E Global) Global) Global) → List E
  all_values commitments = joined (lists_of_values commitments)

-- claims that a verifier is handed
module _ {E : Type 0} where
  abbrev pub claimed_at_points : List (PointOpening E) → List ℕ
  claimed_at_points points = map (λ p. length p.values.items) points

  abbrev pub claimed_lists_at_points : List (PointOpening E) → List (List E)
  claimed_lists_at_points points = map (λ p. p.values.items) points

  module _ {Domain : Type 0} where
    abbrev pub claimed_in_matrices : List (MatrixOpening E Domain) → List (List ℕ)
    claimed_in_matrices matrices = map (λ m. claimed_at_points m.points.items) matrices

    abbrev pub claimed_lists_in_matrices : List (MatrixOpening E Domain) → List (List E)
    claimed_lists_in_matrices matrices =
        flat_map (λ m. claimed_lists_at_points m.points.items) matrices

    module _ {Com : Type 0} where
      -- how many values are claimed, by commitment, matrix and point
      abbrev pub counts_of_claims : List (CommitmentOpening E Com Domain) → List (List (List ℕ))
      counts_of_claims claims = map (λ c. claimed_in_matrices c.matrices.items) claims

      -- the list of values claimed at each point, in order
      abbrev pub lists_of_claims : List (CommitmentOpening E Com Domain) → List (List E)
      lists_of_claims claims = flat_map (λ c. claimed_lists_in_matrices c.matrices.items) claims

      -- all claimed values, in order
      abbrev pub all_claimed : List (CommitmentOpening E Com Domain) → List E
      all_claimed claims = joined (lists_of_claims claims)
