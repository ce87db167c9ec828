-- The polynomials of a matrix on a coset have its rows there.
use Rattle.std.specs.Prelude.{◌≡◌, ◌≢◌, ◌<◌, ◌≤◌, ℕ, ◌^◌, List, [], map, length, slice_index_or}
use Rattle.std.specs.Prelude.{refl}
use Rattle.std.proofs.Common.{sym, ap, ◌∙◌, arith}
use Rattle.std.proofs.lemmas.List.{length-map, get_or-map}
use Rattle.algebra.specs.Field.{IsField}
use Rattle.algebra.specs.Polynomial.{val, tabulate}
use Rattle.algebra.specs.Interpolation.{Interpolates}
use Rattle.algebra.specs.TwoAdic.{AreRoots}
use Rattle.algebra.proofs.Lists.{length-tabulate, get_or-tabulate, tabulate-get_or}
use Rattle.algebra.proofs.Lists.{map-tabulate, tabulate-equal, distinct_from_AllPairs}
use Rattle.algebra.proofs.Interpolation.{interpolant_interpolates}
use Rattle.p3_field_core.specs.Coset.{coset_point, coset_points}
use Rattle.p3_field_core.proofs.Cosets.{natural_distinct}
use Rattle.p3_matrix.specs.declared.dense.RowMajorMatrix.{RowMajorMatrix}
use Rattle.p3_matrix.specs.Matrix.{rows, matrix_width}
use Rattle.p3_matrix.proofs.Widths.{row_width}
use Rattle.p3_dft.specs.Evaluations.{column}
use Rattle.p3_fri_extensions.specs.Extension.{polynomial_on}
use Rattle.p3_fri_relation.specs.Setting.{Fields}
use Rattle.p3_fri_two_adic.specs.Chunks.{polynomials_on}
use Rattle.p3_uni_stark_pcs.specs.Laws.{HoldsRowsOn}
use Rattle.p3_uni_stark_pcs.specs.Fields.{stark_fields}

-- of a matrix on the coset of the shift `s` and of `2^k` points
module _ {F E : Type 0} (f : Fields F E) (basis : ℕ → E) (canonical : F → ℕ) (L : IsField f.base)
    (W : AreRoots f.base f.two_adicity f.root) (s : F) (nonzero : s ≢ f.base.zero) (k : ℕ)
    (within : k ≤ f.two_adicity) (values : RowMajorMatrix F)
    (height : length (rows values) ≡ 2 ^ k) where
  -- how many columns it has
  abbrev width : ℕ
  width = matrix_width values

  -- the coset's point at an index
  abbrev point : ℕ → F
  point i = coset_point f.base (f.root k) s i

  -- that of a column
  abbrev polynomial : ℕ → List F
  polynomial j = polynomial_on f.base f.root s k (column f.base values j)

  -- row by column
  abbrev entry : (i j : ℕ) → F
  entry i j = slice_index_or (slice_index_or (rows values) i []) j f.base.zero

  interpolates : (j : ℕ) → Interpolates f.base (coset_points f.base (f.root k) s k)
      (column f.base values j) (polynomial j)
  interpolates j = interpolant_interpolates f.base L (coset_points f.base (f.root k) s k)
      (column f.base values j)
      (length-tabulate (2 ^ k) point ∙ sym height
      ∙ sym (length-map (rows values) (λ row. slice_index_or row j f.base.zero)))
      (distinct_from_AllPairs (coset_points f.base (f.root k) s k)
      (natural_distinct f.base L f.two_adicity f.root W k within s nonzero))

  degree : (j : ℕ) → length (polynomial j) ≡ 2 ^ k
  degree j = (interpolates j).count ∙ length-tabulate (2 ^ k) point

  value_there : (i j : ℕ) → i < 2 ^ k → val f.base (polynomial j) (point i) ≡ entry i j
  value_there i j below =
      sym (get_or-tabulate (2 ^ k) (λ n. val f.base (polynomial j) (point n)) i f.base.zero below)
      ∙ ap (λ ys. slice_index_or ys i f.base.zero)
      (sym (map-tabulate (λ x. val f.base (polynomial j) x) (2 ^ k) point)
      ∙ (interpolates j).values)
      ∙ get_or-map (λ row. slice_index_or row j f.base.zero) (rows values) i [] f.base.zero
      (omega (arith, below, height))

  -- at a point of the coset the polynomials have the row there
  row_there : (i : ℕ) → i < 2 ^ k
      → map (λ c. val f.base c (point i)) (tabulate width polynomial)
      ≡ slice_index_or (rows values) i []
  row_there i below =
      map-tabulate (λ c. val f.base c (point i)) width polynomial
      ∙ tabulate-equal width (λ j. val f.base (polynomial j) (point i)) (λ j. entry i j)
      (λ j inside. value_there i j below)
      ∙ tabulate-get_or width (slice_index_or (rows values) i []) f.base.zero
      (row_width values i (omega (arith, below, height)))

  pub rows_on : HoldsRowsOn (stark_fields f basis canonical) s k values
      (polynomials_on f s k values)
  rows_on = record {
    columns = tabulate width polynomial;
    count = length-tabulate width polynomial;
    degrees = λ i d l.
        let below : i < width = omega (arith, l, length-tabulate width polynomial) in
        ap length (get_or-tabulate width polynomial i d below) ∙ degree i;
    rows_there = row_there;
    values = λ z. refl;
  }
