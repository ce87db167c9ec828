-- The numbers of a constraint system and of what it is held against.
use Rattle.std.specs.Prelude.{ℕ, List, [], ◌∷◌, ◌++◌, map, length}
use Rattle.std.specs.List.{flat_map}
use Rattle.p3_air.specs.declared.air.Node.{Node}
use Rattle.p3_air.specs.declared.air.Node.TheVariants.{Constant, Local, Next, Preprocessed}
use Rattle.p3_air.specs.declared.air.Node.TheVariants.{PreprocessedNext, Public, Periodic}
use Rattle.p3_air.specs.declared.air.Node.TheVariants.{Add, Sub, Mul, Neg}
use Rattle.p3_air.specs.declared.air.Rows.{Rows}
use Rattle.p3_air.specs.declared.air.Rows.TheVariants.{All, First, Last, Transition}
use Rattle.p3_air.specs.declared.air.Constraint.{Constraint}
use Rattle.p3_air.specs.declared.air.AirLayout.{AirLayout}
use Rattle.p3_challenger_fs.specs.Pattern.{number_bytes}

-- a constraint system, what both sides know of the trace, and the logarithm of its height
pub record Instance (V : Type 0) : Type 0 where
  pub layout : AirLayout
  pub nodes : List (Node V)
  pub constraints : List Constraint
  pub public_values : List V
  pub periodic : List (List V)
  pub log_height : ℕ

abbrev pub rows_number : Rows → ℕ
rows_number All = 0
rows_number First = 1
rows_number Last = 2
rows_number Transition = 3

-- the kind of its rows, and its node
abbrev pub constraint_numbers : Constraint → List ℕ
constraint_numbers c = rows_number c.rows ∷ c.node ∷ []

module _ {V : Type 0} where
  -- all sizes
  abbrev pub header_numbers : Instance V → List ℕ
  header_numbers s =
      s.layout.width ∷ s.layout.preprocessed_width ∷ s.layout.num_public_values
      ∷ s.layout.num_periodic_columns ∷ s.log_height ∷ length s.nodes ∷ length s.constraints
      ∷ length s.public_values ∷ length s.periodic ∷ []

  module _ (canonical : V → ℕ) where
    -- its kind, and what it names
    abbrev pub node_numbers : Node V → List ℕ
    node_numbers (Constant value) = 0 ∷ canonical value ∷ 0 ∷ []
    node_numbers (Local column) = 1 ∷ column ∷ 0 ∷ []
    node_numbers (Next column) = 2 ∷ column ∷ 0 ∷ []
    node_numbers (Preprocessed column) = 3 ∷ column ∷ 0 ∷ []
    node_numbers (PreprocessedNext column) = 4 ∷ column ∷ 0 ∷ []
    node_numbers (Public index) = 5 ∷ index ∷ 0 ∷ []
    node_numbers (Periodic column) = 6 ∷ column ∷ 0 ∷ []
    node_numbers (Add a b) = 7 ∷ a ∷ b ∷ []
    node_numbers (Sub a b) = 8 ∷ a ∷ b ∷ []
    node_numbers (Mul a b) = 9 ∷ a ∷ b ∷ []
    node_numbers (Neg a) = 10 ∷ a ∷ 0 ∷ []

    -- a column's length and its elements
    abbrev pub column_numbers : List V → List ℕ
    column_numbers column = length column ∷ map canonical column

    -- sizes, nodes, constraints, public values and periodic columns
    unfoldable pub instance_numbers : Instance V → List ℕ
    instance_numbers s =
        header_numbers s ++ flat_map node_numbers s.nodes
        ++ flat_map constraint_numbers s.constraints ++ map canonical s.public_values
        ++ flat_map column_numbers s.periodic

-- numbers one after another, eight bytes each, the highest first
abbrev pub numbers_bytes : List ℕ → List ℕ
numbers_bytes numbers = flat_map number_bytes numbers
