-- The columns of one length, by their places among all.
use Rattle.std.specs.Prelude.{◌≡◌, ℕ, ◌<◌, List, [], All, Contains, length, slice_index_or}
use Rattle.algebra.specs.Field.{FieldOps}

module _ {T : Type 0} (columns : List (List T)) where
  -- the column at this place, empty past the last
  abbrev pub column_at : (place : ℕ) → List T
  column_at place = slice_index_or columns place []

  -- the places below `bound` of the columns of this length
  pub record ArePlaces (bound period : ℕ) (places : List ℕ) : Type 0 where
    pub within : All (λ place. place < bound) places
    pub each : All (λ place. length (column_at place) ≡ period) places
    pub all : (place : ℕ) → place < bound → length (column_at place) ≡ period
        → Contains places place

-- entry `row` of the column at this place
abbrev pub entry_at : {A : Type 0} (F : FieldOps A) (columns : List (List A)) (row place : ℕ) → A
entry_at F columns row place = slice_index_or (column_at columns place) row F.zero
