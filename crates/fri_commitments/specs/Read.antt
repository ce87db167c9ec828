-- What is read of a request.
use Rattle.std.specs.Prelude.{◌≡◌, ◌≢◌, ℕ, Bool, List, [], Option, map, All}
use Rattle.std.specs.List.{AllZip}
use Rattle.algebra.specs.Nested.{lists}
use Rattle.fri_records.specs.declared.records.Batch.{Batch}
use Rattle.fri_statement.specs.Setting.{SchemeFields}
use Rattle.fri_schemes.specs.Rows.{FitsRows}
use Rattle.fri_commitments.specs.declared.reading.ListedBatch.{ListedBatch}
use Rattle.fri_commitments.specs.Committed.{ListsBy}
use Rattle.fri_numbers.specs.Numbers.{element, extension_numbers}
use Rattle.fri_commitments.specs.Preprocessing.{NamesPreprocessed}

-- each matrix is opened at some point
abbrev pub HavePoints : {E : Type 0} → List (List (List E)) → Type 0
HavePoints points = All (λ lists. All (λ zs. zs ≢ []) lists) points

-- batches, read of their records, with the index of the preprocessed one: each matrix has room for
-- its extension within the two-adicity
pub record AreReadBy {V Dom : Type 0} (element_of : ℕ → V) (shift_of log_size_of : Dom → ℕ)
    (two_adicity : ℕ) (hides : Bool) (log_blowup : ℕ) (batches : List Batch) (index : Option ℕ)
    (read : List (ListedBatch V Dom)) : Type 0 where
  pub listed : AllZip (ListsBy element_of shift_of log_size_of hides) read batches
  pub fit : All (λ b. All (λ e. FitsRows two_adicity hides log_blowup (log_size_of e.0) e.1)
      b.evaluations.items) read
  pub named : NamesPreprocessed index batches

-- the points that batches list, by their numbers, some for each matrix
pub record ArePointsBy {E : Type 0} (numbers_of : E → List ℕ) (points : List (List (List E)))
    (batches : List Batch) : Type 0 where
  pub numbers : map (map (map numbers_of)) points
      ≡ map (λ batch. map (λ m. lists m.points.items) batch.matrices.items) batches
  pub some_points : HavePoints points

module _ {F E : Type 0} (f : SchemeFields F E) where
  module _ {Dom : Type 0} (hides : Bool) (shift_of : Dom → F) (log_size_of : Dom → ℕ) where
    -- the same over these fields
    abbrev pub AreRead : (log_blowup : ℕ) → List Batch → (index : Option ℕ)
        → List (ListedBatch F Dom) → Type 0
    AreRead log_blowup batches index read = AreReadBy (element f) (λ d. f.canonical (shift_of d))
        log_size_of f.relation.two_adicity hides log_blowup batches index read

  abbrev pub ArePoints : List (List (List E)) → List Batch → Type 0
  ArePoints points batches = ArePointsBy (extension_numbers f) points batches
