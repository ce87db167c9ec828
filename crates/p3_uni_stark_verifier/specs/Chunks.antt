-- How many chunks a quotient has.
use Rattle.std.specs.Prelude.{ℕ, ◌-◌, ◌<◌, ◌≤◌, ◌^◌, Bool, List, All, slice_index_or, if◌then◌else◌}
use Rattle.p3_air.specs.declared.air.Rows.{Rows}
use Rattle.p3_air.specs.declared.air.Rows.TheVariants as rows
use Rattle.p3_air.specs.declared.air.Constraint.{Constraint}
use Rattle.p3_air.specs.declared.air.Air.{Air}
use Rattle.p3_air.specs.Degrees.{node_degrees}

-- one more where a scheme hides, which doubles each number of rows
abbrev pub hiding_bits : (zk : Bool) → ℕ
hiding_bits zk = if zk then 1 else 0

-- the degree that a constraint on these rows may have with one chunk: its selector may count one
abbrev pub allowed_degree : Rows → ℕ
allowed_degree rows.All = 2
allowed_degree rows.First = 1
allowed_degree rows.Last = 1
allowed_degree rows.Transition = 2

-- how far a constraint's degree is above that, where the randomness of a scheme that hides counts
-- one too
abbrev pub excess : (zk : Bool) (degree : ℕ) → Constraint → ℕ
excess zk degree c = degree - (if zk then allowed_degree c.rows - 1 else allowed_degree c.rows)

module _ (zk : Bool) (degrees : List ℕ) where
  -- a constraint's excess is below this
  abbrev pub IsBelow : (bound : ℕ) → Constraint → Type 0
  IsBelow bound c = excess zk (slice_index_or degrees c.node 0) c < bound

  -- the excess of each constraint is below `2^log`, and below no smaller power of two
  pub record IsLogChunks (constraints : List Constraint) (log : ℕ) : Type 0 where
    pub enough : All (IsBelow (2 ^ log)) constraints
    pub least : (j : ℕ) → All (IsBelow (2 ^ j)) constraints → log ≤ j

-- the degrees of a system's nodes are below `2^63`, and its constraints need `2^log` chunks
pub record NeedsChunks {V : Type 0} (zk : Bool) (air : Air V) (log : ℕ) : Type 0 where
  pub degrees : All (λ d. d < 2 ^ 63) (node_degrees air)
  pub least : IsLogChunks zk (node_degrees air) air.constraints.items log
