-- The polynomials of a matrix that a record lists.
use Rattle.std.proofs.Common.{◌≡◌, ℕ, ◌^◌, List, map, slice_index_or, sym, ap, ◌∙◌}
use Rattle.algebra.specs.Polynomial.{tabulate}
use Rattle.algebra.specs.Quotients.{values_at}
use Rattle.p3_matrix.specs.declared.dense.RowMajorMatrix.{RowMajorMatrix}
use Rattle.p3_matrix.specs.Matrix.{rows, matrix_width}
use Rattle.p3_matrix.specs.Rows.{rows_of}
use Rattle.p3_pcs.specs.Requests.{Held}
use Rattle.p3_fri_extensions.specs.Extension.{polynomial_on}
use Rattle.p3_fri_two_adic.specs.Chunks.{polynomials_on}
use Rattle.fri_records.specs.declared.records.Matrix.{Matrix}
use Rattle.fri_statement.specs.Setting.{SchemeFields}
use Rattle.fri_requests.specs.Matrices.{held_listed}
use Rattle.fri_numbers.specs.Numbers.{element}
use Rattle.fri_numbers.proofs.Listed.{HaveNumbers}

module _ {F E : Type 0} (f : SchemeFields F E) (numbered : HaveNumbers f) where
  -- what is held of rows on a domain
  abbrev held_of_rows : (shift : F) (k width : ℕ) (rs : List (List F)) → Held E
  held_of_rows shift k width rs = record {
    size = 2 ^ k;
    values_at = λ z. values_at f.relation.base f.relation.ext f.relation.lift (tabulate width (λ j.
        polynomial_on f.relation.base f.relation.root shift k
        (map (λ entries. slice_index_or entries j f.relation.base.zero) rs))) z;
  }

  pub held_same : (shift : F) (k : ℕ) (values : RowMajorMatrix F) (m : Matrix)
      → f.canonical shift ≡ m.domain.shift → k ≡ m.domain.log_size → matrix_width values ≡ m.width
      → rows values ≡ rows_of m.width (map (element f) m.values.items)
      → polynomials_on f.relation shift k values ≡ held_listed f m
  held_same shift k values m shifted sized wide rowed =
      ap (λ s. held_of_rows s k (matrix_width values) (rows values))
      (sym (numbered.again shift) ∙ ap (element f) shifted)
      ∙ ap (λ n. held_of_rows (element f m.domain.shift) n (matrix_width values) (rows values)) sized
      ∙ ap (λ w. held_of_rows (element f m.domain.shift) m.domain.log_size w (rows values)) wide
      ∙ ap (λ rs. held_of_rows (element f m.domain.shift) m.domain.log_size m.width rs) rowed
