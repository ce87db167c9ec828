-- Constraint systems that name only what is there, and why one doesn't.
use Rattle.std.specs.Prelude.{◌≡◌, ◌<◌, ◌≤◌, ⊤, ℕ, List, length, All, take, slice_index_or, ◌⊎◌}
use Rattle.std.specs.List.{HoldsAt}
use Rattle.p3_air.specs.declared.air.Node.{Node}
use Rattle.p3_air.specs.declared.air.Node.TheVariants.{Constant, Local, Next, Preprocessed}
use Rattle.p3_air.specs.declared.air.Node.TheVariants.{PreprocessedNext, Public, Periodic}
use Rattle.p3_air.specs.declared.air.Node.TheVariants.{Add, Sub, Mul, Neg}
use Rattle.p3_air.specs.declared.air.Air.{Air}
use Rattle.p3_air.specs.declared.air.AirLayout.{AirLayout}
use Rattle.p3_air.specs.declared.error.AirError.{AirError}
use Rattle.p3_air.specs.declared.error.AirError.TheVariants as fault

module _ {V : Type 0} (layout : AirLayout) where
  -- node number `at` names columns and public values that are there, and nodes before it
  abbrev pub IsGrounded : (at : ℕ) → Node V → Type 0
  IsGrounded at (Constant value) = ⊤
  IsGrounded at (Local column) = column < layout.width
  IsGrounded at (Next column) = column < layout.width
  IsGrounded at (Preprocessed column) = column < layout.preprocessed_width
  IsGrounded at (PreprocessedNext column) = column < layout.preprocessed_width
  IsGrounded at (Public index) = index < layout.num_public_values
  IsGrounded at (Periodic column) = column < layout.num_periodic_columns
  IsGrounded at (Add a b) = (a < at) × (b < at)
  IsGrounded at (Sub a b) = (a < at) × (b < at)
  IsGrounded at (Mul a b) = (a < at) × (b < at)
  IsGrounded at (Neg a) = a < at

  -- each of the first `count` nodes does
  abbrev pub AreGrounded : (nodes : List (Node V)) (count : ℕ) → Type 0
  AreGrounded nodes count = (at : ℕ) (node : Node V) → at < count
      → IsGrounded at (slice_index_or nodes at node)

-- each node names columns, public values and earlier nodes that are there, and each constraint a
-- node
pub record IsWellFormed {V : Type 0} (air : Air V) : Type 0 where
  pub nodes : AreGrounded air.layout air.nodes.items (length air.nodes.items)
  pub constraints : All (λ c. c.node < length air.nodes.items) air.constraints.items

-- the fault, of something at `index` where there are so many
abbrev pub IsOutside : (index count : ℕ) (expected found : AirError) → Type 0
IsOutside index count expected found = (count ≤ index) × (found ≡ expected)

-- the fault of node number `at` with two operands: the first that isn't before it
abbrev pub OperandFault : (at a b : ℕ) → AirError → Type 0
OperandFault at a b f = IsOutside a at (fault.LaterOperand at a) f
    ⊎ ((a < at) × IsOutside b at (fault.LaterOperand at b) f)

module _ {V : Type 0} (layout : AirLayout) where
  -- why node number `at` isn't grounded
  abbrev pub NodeFault : (at : ℕ) → Node V → AirError → Type 0
  NodeFault at (Constant value) f = ⊥
  NodeFault at (Local column) f =
      IsOutside column layout.width (fault.UnknownColumn at column) f
  NodeFault at (Next column) f =
      IsOutside column layout.width (fault.UnknownColumn at column) f
  NodeFault at (Preprocessed column) f =
      IsOutside column layout.preprocessed_width (fault.UnknownPreprocessedColumn at column) f
  NodeFault at (PreprocessedNext column) f =
      IsOutside column layout.preprocessed_width (fault.UnknownPreprocessedColumn at column) f
  NodeFault at (Public index) f =
      IsOutside index layout.num_public_values (fault.UnknownPublicValue at index) f
  NodeFault at (Periodic column) f =
      IsOutside column layout.num_periodic_columns (fault.UnknownPeriodicColumn at column) f
  NodeFault at (Add a b) f = OperandFault at a b f
  NodeFault at (Sub a b) f = OperandFault at a b f
  NodeFault at (Mul a b) f = OperandFault at a b f
  NodeFault at (Neg a) f = IsOutside a at (fault.LaterOperand at a) f

module _ {V : Type 0} (air : Air V) where
  -- the first node that isn't grounded is refused
  pub record FirstNodeFault (f : AirError) : Type 0 where
    pub at : ℕ
    pub within : at < length air.nodes.items
    pub before : AreGrounded air.layout air.nodes.items at
    pub here : HoldsAt (λ node. NodeFault air.layout at node f) air.nodes.items at

  -- the first constraint whose node isn't there is refused
  pub record FirstConstraintFault (f : AirError) : Type 0 where
    pub grounded : AreGrounded air.layout air.nodes.items (length air.nodes.items)
    pub at : ℕ
    pub within : at < length air.constraints.items
    pub before : All (λ c. c.node < length air.nodes.items) (take at air.constraints.items)
    pub here : HoldsAt (λ c. IsOutside c.node (length air.nodes.items)
        (fault.UnknownNode at c.node) f) air.constraints.items at

  -- why the system is malformed: nodes come first, then constraints
  abbrev pub FirstFault : AirError → Type 0
  FirstFault f = FirstNodeFault f ⊎ FirstConstraintFault f
