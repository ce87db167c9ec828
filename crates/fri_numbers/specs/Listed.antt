-- The matrices of a batch that a record lists, on the domains on which they are committed to.
use Rattle.std.specs.Prelude.{◌≡◌, ℕ, Bool, List, map}
use Rattle.std.specs.List.{AllZip}
use Rattle.p3_matrix.specs.declared.dense.RowMajorMatrix.{RowMajorMatrix}
use Rattle.p3_matrix.specs.Matrix.{rows, matrix_width}
use Rattle.p3_matrix.specs.Rows.{rows_of}
use Rattle.fri_records.specs.declared.records.Domain.{Domain}
use Rattle.fri_records.specs.declared.records.Matrix.{Matrix}
use Rattle.fri_records.specs.declared.records.Batch.{Batch}
use Rattle.fri_statement.specs.Setting.{SchemeFields}
use Rattle.fri_schemes.specs.Rows.{log_committed}
use Rattle.fri_numbers.specs.Numbers.{element}

-- the domain on which a matrix is committed to that is listed on this one: of as many points, and
-- of twice as many where the scheme hides
abbrev pub domain_committed : (hides : Bool) → Domain → Domain
domain_committed hides d =
    record { shift = d.shift; log_size = log_committed hides d.log_size }

-- a domain of a shift of this number and of `2^log_size` points
abbrev pub domain_by : (shift log_size : ℕ) → Domain
domain_by shift log_size = record { shift = shift; log_size = log_size }

-- by which element a number is of, and by the numbers of domains
module _ {V Dom : Type 0} (element_of : ℕ → V) (shift_of log_size_of : Dom → ℕ) (hides : Bool) where
  -- the rows that a record lists, beside the domain on which they are committed to
  pub record IsListedBy (e : Dom × RowMajorMatrix V) (m : Matrix) : Type 0 where
    pub domain : domain_by (shift_of e.0) (log_size_of e.0) ≡ domain_committed hides m.domain
    pub width : matrix_width e.1 ≡ m.width
    pub listed_rows : rows e.1 ≡ rows_of m.width (map element_of m.values.items)

  -- those of each matrix of a batch
  abbrev pub AreListedBy : List (Dom × RowMajorMatrix V) → Batch → Type 0
  AreListedBy evaluations batch = AllZip IsListedBy evaluations batch.matrices.items

module _ {F E : Type 0} (f : SchemeFields F E) where
  -- the same over these fields
  abbrev pub domain_of : (shift : F) (log_size : ℕ) → Domain
  domain_of shift log_size = domain_by (f.canonical shift) log_size

  module _ {Dom : Type 0} (hides : Bool) (shift_of : Dom → F) (log_size_of : Dom → ℕ) where
    abbrev pub IsListed : Dom × RowMajorMatrix F → Matrix → Type 0
    IsListed e m = IsListedBy (element f) (λ d. f.canonical (shift_of d)) log_size_of hides e m

    abbrev pub AreListed : List (Dom × RowMajorMatrix F) → Batch → Type 0
    AreListed evaluations batch =
        AreListedBy (element f) (λ d. f.canonical (shift_of d)) log_size_of hides evaluations batch
