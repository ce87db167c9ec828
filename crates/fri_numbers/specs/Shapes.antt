-- Which records are those of matrices that can be committed to, and opened.
use Rattle.std.specs.Prelude.{◌≢◌, ◌≡◌, ℕ, ◌*◌, ◌+◌, ◌^◌, ◌<◌, ◌≤◌, List, [], length, All, Bool}
use Rattle.algebra.specs.Nested.{lists}
use Rattle.fri_records.specs.declared.records.Domain.{Domain}
use Rattle.fri_records.specs.declared.records.Matrix.{Matrix}
use Rattle.fri_statement.specs.Setting.{SchemeFields}
use Rattle.fri_numbers.specs.Listed.{domain_committed}
use Rattle.fri_numbers.specs.Numbers.{IsCosetBelow, IsExtensionElement}

-- a matrix of so many columns and values on a coset over a field of this order and two-adicity,
-- with room for the extension of the domain on which it is committed to: some column, and for each
-- column and point of the coset a value
pub record HasShape (order two_adicity : ℕ) (hides : Bool) (log_blowup : ℕ) (domain : Domain)
    (width count : ℕ) : Type 0 where
  pub coset : IsCosetBelow order two_adicity domain.shift domain.log_size
  pub room : (domain_committed hides domain).log_size + log_blowup ≤ two_adicity
  pub some_column : 0 < width
  pub whole : count ≡ width * 2 ^ domain.log_size

-- a matrix of such a shape whose values are elements
pub record IsMatrixBelow (order two_adicity : ℕ) (hides : Bool) (log_blowup : ℕ) (m : Matrix)
    : Type 0 where
  pub shape :
      HasShape order two_adicity hides log_blowup m.domain m.width (length m.values.items)
  pub elements : All (λ number. number < order) m.values.items

-- there is some point to open the matrix at, and each is one
pub record HasPointsBy (IsPoint : List ℕ → Type 0) (m : Matrix) : Type 0 where
  pub some_point : m.points.items ≢ []
  pub elements : All IsPoint (lists m.points.items)

module _ {F E : Type 0} (f : SchemeFields F E) where
  -- the same over these fields
  abbrev pub IsMatrix : (hides : Bool) (log_blowup : ℕ) → Matrix → Type 0
  IsMatrix hides log_blowup m = IsMatrixBelow f.order f.relation.two_adicity hides log_blowup m

  abbrev pub HasPoints : Matrix → Type 0
  HasPoints m = HasPointsBy (IsExtensionElement f) m
