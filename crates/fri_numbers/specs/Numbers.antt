-- Which numbers are those of elements and of cosets.
use Rattle.std.specs.Prelude.{◌≡◌, ℕ, ◌<◌, ◌≤◌, List, map, length, All}
use Rattle.algebra.specs.Field.{multiple}
use Rattle.fri_statement.specs.Setting.{SchemeFields}

-- the numbers of so many coefficients, each below the order
pub record AreCoefficients (order degree : ℕ) (numbers : List ℕ) : Type 0 where
  pub count : length numbers ≡ degree
  pub elements : All (λ number. number < order) numbers

-- a coset of at most `2^most` points: a shift that is below the order and not zero
pub record IsCosetBelow (order most shift log_size : ℕ) : Type 0 where
  pub size : log_size ≤ most
  pub nonzero : 0 < shift
  pub element : shift < order

module _ {F E : Type 0} (f : SchemeFields F E) where
  -- the element of this number: the multiple of one
  abbrev pub element : ℕ → F
  element number = multiple f.relation.base number

  -- the element of the extension with these coefficients, that of one first
  abbrev pub extension_of : List ℕ → E
  extension_of numbers = f.of_coefficients (map element numbers)

  -- the numbers of the coefficients, that of one first
  abbrev pub extension_numbers : E → List ℕ
  extension_numbers x = map f.canonical (f.relation.coefficients x)

  -- the numbers of as many coefficients as the extension's degree
  abbrev pub IsExtensionElement : List ℕ → Type 0
  IsExtensionElement numbers = AreCoefficients f.order f.relation.degree numbers

  -- a coset's shift and size
  abbrev pub IsCoset : (most shift log_size : ℕ) → Type 0
  IsCoset most shift log_size = IsCosetBelow f.order most shift log_size
