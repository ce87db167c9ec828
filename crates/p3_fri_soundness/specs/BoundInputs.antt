-- Tables behind the commitments of inputs, and the columns that claims speak of.
use Rattle.std.specs.Prelude.{◌≡◌, ◌==◌, ℕ, ◌+◌, ◌-◌, ◌/◌, ◌^◌, List, [], ◌∷◌, ◌++◌, map, length}
use Rattle.std.specs.Prelude.{All, slice_index_or, if◌then◌else◌}
use Rattle.std.specs.List.{flat_map, AllZip}
use Rattle.algebra.specs.Polynomial.{tabulate}
use Rattle.p3_fri_relation.specs.Setting.{Setting, Fields, MatrixClaim, CommitmentClaim}
use Rattle.p3_fri_relation.specs.Setting.{InputOpening}
use Rattle.p3_fri_relation.specs.Heights.{width, log_height}
use Rattle.p3_fri_relation.specs.Inputs.{OpensInput}
use Rattle.fri_soundness.specs.Batches.{OpenedColumn}

module _ {F E : Type 0} (f : Fields F E) (log_blowup : ℕ) where
  -- column `k` of a table of `2^h` rows, lifted to the extension
  abbrev pub column_of : (h : ℕ) (table : List (List F)) (k : ℕ) → List E
  column_of h table k =
      tabulate (2 ^ h) (λ i. f.lift (slice_index_or (slice_index_or table i []) k f.base.zero))

  -- the columns of a table from the `k`-th on, one for each value claimed at the point `z`
  abbrev pub columns_from : (h : ℕ) (table : List (List F)) (z : E) (k : ℕ) (values : List E)
      → List (OpenedColumn E)
  columns_from h table z k [] = []
  columns_from h table z k (y ∷ ys) =
      record { point = z; claim = y; column = column_of h table k }
      ∷ columns_from h table z (k + 1) ys

  -- those of all points at which the matrix is claimed
  abbrev pub matrix_columns : (h : ℕ) → MatrixClaim E → (table : List (List F))
      → List (OpenedColumn E)
  matrix_columns h m table = flat_map (λ z. columns_from h table z.point 0 z.values) m.points

  -- those of the matrices of log height `h` under one commitment
  abbrev pub commitment_columns : (h : ℕ) → List (MatrixClaim E)
      → (tables : List (List (List F))) → List (OpenedColumn E)
  commitment_columns h [] tables = []
  commitment_columns h (m ∷ ms) [] = []
  commitment_columns h (m ∷ ms) (table ∷ tables) =
      (if log_height log_blowup m == h then matrix_columns h m table else [])
      ++ commitment_columns h ms tables

  -- the tables' rows at a position of log height `top`
  abbrev pub rows_of : (top position : ℕ) → List (MatrixClaim E)
      → (tables : List (List (List F))) → List (List F)
  rows_of top position [] tables = []
  rows_of top position (m ∷ ms) [] = []
  rows_of top position (m ∷ ms) (table ∷ tables) =
      slice_index_or table (position / 2 ^ (top - log_height log_blowup m)) []
      ∷ rows_of top position ms tables

  -- a table has the matrix's height and width
  pub record IsTable (m : MatrixClaim E) (table : List (List F)) : Type 0 where
    pub height : length table ≡ 2 ^ log_height log_blowup m
    pub widths : All (λ row. length row ≡ width m) table

  module _ {InCom : Type 0} where
    -- the columns of log height `h` under all commitments
    abbrev pub columns_claimed : (h : ℕ) → List (CommitmentClaim E InCom)
        → (tables : List (List (List (List F)))) → List (OpenedColumn E)
    columns_claimed h [] tables = []
    columns_claimed h (claim ∷ claims) [] = []
    columns_claimed h (claim ∷ claims) (ts ∷ tables) =
        commitment_columns h claim.matrices ts ++ columns_claimed h claims tables

    -- each commitment has a table for each matrix
    abbrev pub TablesFit : List (CommitmentClaim E InCom)
        → (tables : List (List (List (List F)))) → Type 0
    TablesFit = AllZip (λ claim ts. AllZip IsTable claim.matrices ts)

    -- the tables' rows at a position, commitment by commitment
    abbrev pub rows_claimed : (top position : ℕ) → List (CommitmentClaim E InCom)
        → (tables : List (List (List (List F)))) → List (List (List F))
    rows_claimed top position [] tables = []
    rows_claimed top position (claim ∷ claims) [] = []
    rows_claimed top position (claim ∷ claims) (ts ∷ tables) =
        rows_of top position claim.matrices ts ∷ rows_claimed top position claims tables

module _ {F E C Com Path InCom InPath : Type 0} (s : Setting F E C Com Path InCom InPath)
    (log_blowup top : ℕ) where
  -- whatever rows the commitment opens to, they are these tables', which fit its matrices
  pub record BindsTables (claim : CommitmentClaim E InCom) (tables : List (List (List F)))
      : Type 0 where
    pub tables_fit : AllZip (IsTable s.fields log_blowup) claim.matrices tables
    pub binds : (positions : List ℕ) (o : InputOpening F InPath)
        → OpensInput s.opens_input log_blowup top positions claim o
        → o.rows ≡ map (λ q. rows_of s.fields log_blowup top q claim.matrices tables) positions
