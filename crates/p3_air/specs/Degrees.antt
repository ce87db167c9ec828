-- Degrees of nodes and constraints.
use Rattle.std.specs.Prelude.{◌≤◌, ◌^◌, ⊤, ℕ, max, List, [], ◌∷◌, slice_index_or, Any}
use Rattle.p3_air.specs.declared.air.Air.{Air}
use Rattle.p3_air.specs.declared.air.Constraint.{Constraint}
use Rattle.p3_air.specs.declared.error.DegreeError.{DegreeError}
use Rattle.p3_air.specs.declared.error.DegreeError.TheVariants.{TooLarge, OutOfMemory}
use Rattle.p3_air.specs.Nodes.{meanings, degrees_in}

-- the degrees of the nodes, in order
abbrev pub node_degrees : {V : Type 0} → Air V → List ℕ
node_degrees air = meanings degrees_in air.nodes.items

-- the greatest degree of a constraint's node, 0 where there are no constraints
abbrev pub greatest_degree : (degrees : List ℕ) → List Constraint → ℕ
greatest_degree degrees [] = 0
greatest_degree degrees (c ∷ constraints) =
    max (slice_index_or degrees c.node 0) (greatest_degree degrees constraints)

-- why degrees are refused: one is too large
abbrev pub DegreeFault : {V : Type 0} → Air V → DegreeError → Type 0
DegreeFault air TooLarge = Any (λ degree. 2 ^ 64 ≤ degree) (node_degrees air)
DegreeFault air OutOfMemory = ⊤
