-- The shape of an opening at one index.
use Rattle.std.specs.Prelude.{◌≡◌, ℕ, List, length}
use Rattle.p3_matrix.specs.declared.Dimensions.{Dimensions}
use Rattle.p3_mmcs.specs.Batch.{HasRows}

-- the rows have the matrices' widths, and the path this number of digests
pub record IsShaped {T : Type 0} (dims : List Dimensions) (log_height : ℕ) (set : List (List T))
    (path : List (List ℕ)) : Type 0 where
  pub widths : HasRows dims set
  pub levels : length path ≡ log_height
