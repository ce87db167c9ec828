-- Matrices of coefficients from their values, row after row.
use Rattle.std.proofs.Common.{◌≡◌, ◌<◌, ℕ, ◌^◌, List, sym, ap, ◌∙◌, arith}
use Rattle.algebra.specs.Field.{FieldOps, pow}
use Rattle.algebra.specs.Polynomial.{val}
use Rattle.p3_matrix.specs.declared.dense.RowMajorMatrix.{RowMajorMatrix}
use Rattle.p3_dft.specs.Strided.{strided}
use Rattle.p3_dft.proofs.Columns.{Holds, column-strided, length-held}
use Rattle.p3_fri_extensions.specs.Committed.{AreFitted}

module _ {A : Type 0} (F : FieldOps A) where
  pub fitted_from_values : (shift : A) (m width height : ℕ) (xs ys : List A)
      (coefficients fitted : RowMajorMatrix A)
      → Holds coefficients width height xs → Holds fitted width (2 ^ m) ys
      → ((j : ℕ) (x : A) → j < width → pow F x (2 ^ m) ≡ pow F shift (2 ^ m)
      → val F (strided F width (2 ^ m) ys j) x ≡ val F (strided F width height xs j) x)
      → AreFitted F shift m coefficients fitted
  fitted_from_values shift m width height xs ys coefficients fitted given made same = record {
    width = made.columns ∙ sym given.columns;
    height = length-held F fitted width (2 ^ m) ys made;
    values = λ j x l e.
        let below : j < width = omega (arith, l, given.columns) in
        ap (λ c. val F c x) (column-strided F fitted width (2 ^ m) ys made j below)
        ∙ same j x below e
        ∙ ap (λ c. val F c x) (sym (column-strided F coefficients width height xs given j below));
  }
