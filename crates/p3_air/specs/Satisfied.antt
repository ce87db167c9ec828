-- When a trace satisfies constraints.
use Rattle.std.specs.Prelude.{◌≡◌, ◌≢◌, ◌<◌, ⊤, ℕ, suc, ◌+◌, ◌%◌, List, [], length, map, All}
use Rattle.std.specs.Prelude.{slice_index_or}
use Rattle.algebra.specs.Field.{FieldOps}
use Rattle.p3_air.specs.declared.air.Air.{Air}
use Rattle.p3_air.specs.declared.air.AirLayout.{AirLayout}
use Rattle.p3_air.specs.declared.air.Rows.{Rows}
use Rattle.p3_air.specs.declared.air.Rows.TheVariants as rows
use Rattle.p3_air.specs.declared.air.Constraint.{Constraint}
use Rattle.p3_air.specs.Nodes.{Entries, values_in, meanings}

-- what a constraint system is held against: the trace and the preprocessed columns, row by row, the
-- public values, and the periodic columns, each a list that is gone through again and again
pub record Assigned (V : Type 0) : Type 0 where
  pub trace : List (List V)
  pub preprocessed : List (List V)
  pub public_values : List V
  pub periodic : List (List V)

-- row `i` of `n` is one of those
abbrev pub IsAmong : (n i : ℕ) → Rows → Type 0
IsAmong n i rows.All = ⊤
IsAmong n i rows.First = i ≡ 0
IsAmong n i rows.Last = suc i ≡ n
IsAmong n i rows.Transition = suc i < n

module _ {V : Type 0} where
  -- the row at this place, empty past the last
  abbrev pub row_at : (rows : List (List V)) (place : ℕ) → List V
  row_at rows place = slice_index_or rows place []

  -- there is a row, rows have as many entries as there are columns, and with preprocessed columns
  -- there are as many of their rows
  pub record HaveRows (layout : AirLayout) (trace preprocessed : List (List V)) : Type 0 where
    pub some_row : 0 < length trace
    pub widths : All (λ row. length row ≡ layout.width) trace
    pub height : layout.preprocessed_width ≢ 0 → length preprocessed ≡ length trace
    pub preprocessed_widths : All (λ row. length row ≡ layout.preprocessed_width) preprocessed

  -- there are as many public values and periodic columns as constraints speak of, none empty
  pub record HaveCounts (layout : AirLayout) (public_values : List V) (periodic : List (List V))
      : Type 0 where
    pub values : length public_values ≡ layout.num_public_values
    pub columns : length periodic ≡ layout.num_periodic_columns
    pub periods : All (λ column. 0 < length column) periodic

  -- what is given has the sizes that the layout tells
  pub record HasShape (layout : AirLayout) (given : Assigned V) : Type 0 where
    pub rows : HaveRows layout given.trace given.preprocessed
    pub counts : HaveCounts layout given.public_values given.periodic

module _ {V : Type 0} (K : FieldOps V) (height i : ℕ) (values : List V) where
  -- by the values of the nodes at row `i` of `height`: the constraint's is zero, if that is one of
  -- its rows
  abbrev pub HoldsOn : Constraint → Type 0
  HoldsOn c = IsAmong height i c.rows → slice_index_or values c.node K.zero ≡ K.zero

  -- it isn't zero, and that is one of its rows
  abbrev pub FailsOn : Constraint → Type 0
  FailsOn c = IsAmong height i c.rows × (slice_index_or values c.node K.zero ≢ K.zero)

module _ {V : Type 0} (K : FieldOps V) where
  -- the values of periodic columns at row `i`
  abbrev pub periodic_at : (columns : List (List V)) (i : ℕ) → List V
  periodic_at columns i =
      map (λ column. slice_index_or column (i % length column) K.zero) columns

  -- what constraints see at row `i`; the row after the last is the first
  abbrev pub entries_at : (given : Assigned V) (i : ℕ) → Entries V V
  entries_at given i = let after = (i + 1) % length given.trace in record {
    local = row_at given.trace i;
    next = row_at given.trace after;
    preprocessed = row_at given.preprocessed i;
    preprocessed_next = row_at given.preprocessed after;
    public_values = given.public_values;
    periodic = periodic_at given.periodic i;
  }

  module _ (air : Air V) (given : Assigned V) where
    -- the values of all nodes at row `i`
    abbrev pub node_values : (i : ℕ) → List V
    node_values i = meanings (values_in K (λ x. x) K.zero (entries_at given i)) air.nodes.items

    -- all constraints hold at row `i`
    abbrev pub HoldAtRow : (i : ℕ) → Type 0
    HoldAtRow i = All (HoldsOn K (length given.trace) i (node_values i)) air.constraints.items

    -- what is given has the system's shape, and each constraint is zero on its rows
    pub record IsSatisfied : Type 0 where
      pub shape : HasShape air.layout given
      pub rows_hold : (i : ℕ) → i < length given.trace → HoldAtRow i
