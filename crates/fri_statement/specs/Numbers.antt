-- A prime field and an extension of it, by the numbers of their elements.
use Rattle.std.specs.Prelude.{ℕ, List, map}
use Rattle.algebra.specs.Field.{FieldOps}

-- what challengers and statements ask of a prime field `F` and of an extension `E` of it
pub record PrimeFields (F E : Type 0) : Type 0 where
  pub base : FieldOps F
  -- how many elements the prime field has, and the one number below of which each is the multiple
  -- of one
  pub order : ℕ
  pub canonical : F → ℕ
  -- how many coefficients an element of the extension has, and which, that of one first
  pub degree : ℕ
  pub coefficients : E → List F
  pub of_coefficients : List F → E

-- the numbers of the coefficients, that of one first
abbrev pub coefficient_numbers : {F E : Type 0} → PrimeFields F E → E → List ℕ
coefficient_numbers f x = map f.canonical (f.coefficients x)
