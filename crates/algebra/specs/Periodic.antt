-- The values of periodic columns, between and beyond their rows.
use Rattle.std.specs.Prelude.{ℕ, ◌-◌, ◌^◌, List}
use Rattle.algebra.specs.Field.{FieldOps, pow}
use Rattle.algebra.specs.Polynomial.{val, tabulate}
use Rattle.algebra.specs.Interpolation.{interpolant}

module _ {A : Type 0} (F : FieldOps A) (w : ℕ → A) where
  -- the one polynomial of `2^a` coefficients that has the column's entries at the powers of the
  -- root of unity of order `2^a`
  abbrev pub column_polynomial : (a : ℕ) (column : List A) → List A
  column_polynomial a column = interpolant F (tabulate (2 ^ a) (λ i. pow F (w a) i)) column

  -- the value at `z` of a column of period `2^a` over `2^n` rows: that polynomial's at
  -- `z^(2^n / 2^a)`
  unfoldable pub periodic_value : (a n : ℕ) (column : List A) (z : A) → A
  periodic_value a n column z = val F (column_polynomial a column) (pow F z (2 ^ (n - a)))
