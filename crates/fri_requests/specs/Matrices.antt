-- The matrices that records list, by the polynomials of their columns.
use Rattle.std.specs.Prelude.{ℕ, ◌^◌, List, map, slice_index_or}
use Rattle.algebra.specs.Polynomial.{tabulate}
use Rattle.algebra.specs.Quotients.{values_at}
use Rattle.p3_matrix.specs.Rows.{rows_of}
use Rattle.p3_pcs.specs.Requests.{Held}
use Rattle.p3_fri_extensions.specs.Extension.{polynomial_on}
use Rattle.fri_records.specs.declared.records.Matrix.{Matrix}
use Rattle.fri_statement.specs.Setting.{SchemeFields}
use Rattle.fri_numbers.specs.Numbers.{element}

module _ {F E : Type 0} (f : SchemeFields F E) (m : Matrix) where
  -- column `j`, from the first row down (zero is the default of that look-up, which no column
  -- within the width needs)
  abbrev pub column_listed : (j : ℕ) → List F
  column_listed j = map (λ entries. slice_index_or entries j f.relation.base.zero)
      (rows_of m.width (map (element f) m.values.items))

  -- the one polynomial of as many coefficients as the domain has points that has that column's
  -- values there
  abbrev pub polynomial_listed : (j : ℕ) → List F
  polynomial_listed j = polynomial_on f.relation.base f.relation.root (element f m.domain.shift)
      m.domain.log_size (column_listed j)

  -- the values at `z` of the columns' polynomials
  abbrev pub values_listed : (z : E) → List E
  values_listed z = values_at f.relation.base f.relation.ext f.relation.lift
      (tabulate m.width polynomial_listed) z

  -- what is held of the matrix
  abbrev pub held_listed : Held E
  held_listed = record { size = 2 ^ m.domain.log_size; values_at = values_listed }
