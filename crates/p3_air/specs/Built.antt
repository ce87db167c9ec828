-- Constraint systems while they are written.
use Rattle.std.specs.Prelude.{◌≡◌, ℕ, ◌+◌, pred, List, [], ◌∷◌, ◌++◌, length}
use Rattle.p3_air.specs.declared.air.Node.{Node}
use Rattle.p3_air.specs.declared.air.Rows.{Rows}
use Rattle.p3_air.specs.declared.air.Air.{Air}

module _ {V : Type 0} (old new : Air V) where
  -- the same layout, nodes and constraints
  pub record IsSame : Type 0 where
    pub layout : new.layout ≡ old.layout
    pub nodes : new.nodes.items ≡ old.nodes.items
    pub constraints : new.constraints.items ≡ old.constraints.items

  -- the system has one node more, of this number
  pub record GainsNode (number : ℕ) (node : Node V) : Type 0 where
    pub layout : new.layout ≡ old.layout
    pub number_is : number ≡ length old.nodes.items
    pub nodes : new.nodes.items ≡ old.nodes.items ++ node ∷ []
    pub constraints : new.constraints.items ≡ old.constraints.items

  -- the system has one constraint more: on these rows, that this node is zero
  pub record GainsConstraint (rows : Rows) (number : ℕ) : Type 0 where
    pub layout : new.layout ≡ old.layout
    pub nodes : new.nodes.items ≡ old.nodes.items
    pub constraints : new.constraints.items
        ≡ old.constraints.items ++ record { rows = rows; node = number } ∷ []

  -- the system has these nodes more, and one constraint: on these rows, that the last is zero
  pub record GainsZero (rows : Rows) (added : List (Node V)) : Type 0 where
    pub layout : new.layout ≡ old.layout
    pub nodes : new.nodes.items ≡ old.nodes.items ++ added
    pub constraints : new.constraints.items ≡ old.constraints.items
        ++ record { rows = rows; node = length old.nodes.items + pred (length added) } ∷ []
