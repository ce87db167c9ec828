-- The columns of a matrix and those of its values, row after row; and zeros below a column.
use Rattle.std.proofs.Common.{◌≡◌, ℕ, zero, suc, ◌+◌, ◌*◌, ◌/◌, ◌<◌, ◌≤◌, List, length, get_or, map}
use Rattle.std.proofs.Common.{sym, ap, ◌∙◌, arith, suc-add, zero-add}
use Rattle.std.specs.List.{between}
use Rattle.std.proofs.lemmas.List.Edits.{get_or-between}
use Rattle.std.proofs.lemmas.Nat.{div-mul-add}
use Rattle.algebra.specs.Field.{FieldOps, IsRing}
use Rattle.algebra.specs.Polynomial.{val, tabulate}
use Rattle.algebra.proofs.Lists.{Each, length-tabulate, map-tabulate, tabulate-equal}
use Rattle.algebra.proofs.Values.{val-cons, val-nil, val-zeros}
use Rattle.p3_matrix.specs.declared.dense.RowMajorMatrix.{RowMajorMatrix}
use Rattle.p3_matrix.specs.Matrix.{rows, matrix_width}
use Rattle.p3_matrix.specs.Rows.{rows_of}
use Rattle.p3_matrix.proofs.Rows.{length-rows_of}
use Rattle.p3_dft.specs.Evaluations.{column, AreEvaluations}
use Rattle.p3_dft.specs.Strided.{strided}

pub quotient_of : (n width size : ℕ) → 0 < width → size ≡ n * width → size / width ≡ n
quotient_of n width size some e = ap (λ m. m / width) (e ∙ (let z : n * width ≡ n * width + 0 = omega arith in z)) ∙ div-mul-add n width 0 some

-- `xs` is what the matrix of `height` rows of `width` entries holds
pub record Holds {A : Type 0} (matrix : RowMajorMatrix A) (width height : ℕ) (xs : List A) : Type 0 where
  pub some : 0 < width
  pub entries : rows matrix ≡ rows_of width xs
  pub columns : matrix_width matrix ≡ width
  pub size : length xs ≡ height * width

module _ {A : Type 0} (F : FieldOps A) where
  column_of_rows : (width height : ℕ) (xs : List A) (j : ℕ) → 0 < width → length xs ≡ height * width → j < width → map (λ entries. get_or entries j F.zero) (rows_of width xs) ≡ strided F width height xs j
  unfolding rows_of
  column_of_rows width height xs j some size l =
      map-tabulate (λ entries. get_or entries j F.zero) (length xs / width) (λ i. between (i * width) (i * width + width) xs)
      ∙ ap (λ n. tabulate n (λ i. get_or (between (i * width) (i * width + width) xs) j F.zero)) (quotient_of height width (length xs) some size)
      ∙ tabulate-equal height (λ i. get_or (between (i * width) (i * width + width) xs) j F.zero) (λ i. get_or xs (i * width + j) F.zero)
      (λ i _. get_or-between xs (i * width) (i * width + width) j F.zero (omega (arith, l)))

  pub column-strided : (matrix : RowMajorMatrix A) (width height : ℕ) (xs : List A) → Holds matrix width height xs → (j : ℕ) → j < width → column F matrix j ≡ strided F width height xs j
  column-strided matrix width height xs held j l = ap (λ rs. map (λ entries. get_or entries j F.zero) rs) held.entries ∙ column_of_rows width height xs j held.some held.size l

  pub length-held : (matrix : RowMajorMatrix A) (width height : ℕ) (xs : List A) → Holds matrix width height xs → length (rows matrix) ≡ height
  length-held matrix width height xs held = ap length held.entries ∙ length-rows_of width xs ∙ quotient_of height width (length xs) held.some held.size

  -- evaluations, entry by entry
  pub evaluations_by_entries : (coefficients values : RowMajorMatrix A) (width height : ℕ) (xs ys : List A) (point : ℕ → A)
      → Holds coefficients width height xs → Holds values width height ys
      → ((i j : ℕ) → i < height → j < width → get_or ys (i * width + j) F.zero ≡ val F (strided F width height xs j) (point i))
      → AreEvaluations F (tabulate height point) coefficients values
  evaluations_by_entries coefficients values width height xs ys point given made entry = record {
    width = made.columns ∙ sym given.columns;
    height = length-held values width height ys made ∙ sym (length-held coefficients width height xs given);
    columns = λ j l.
        let below : j < width = omega (arith, l, given.columns) in
        let from = column-strided coefficients width height xs given j below in
        let to = column-strided values width height ys made j below in
        record {
          count = ap length from ∙ length-tabulate height (λ i. get_or xs (i * width + j) F.zero) ∙ sym (length-tabulate height point);
          values =
              ap (λ c. map (λ x. val F c x) (tabulate height point)) from
              ∙ map-tabulate (λ x. val F (strided F width height xs j) x) height point
              ∙ tabulate-equal height (λ i. val F (strided F width height xs j) (point i)) (λ i. get_or ys (i * width + j) F.zero) (λ i b. sym (entry i j b below))
              ∙ sym to;
        };
  }

module _ {A : Type 0} (F : FieldOps A) (R : IsRing F) where
  zero_row : (m : ℕ) (f : ℕ → A) → ((i : ℕ) → f i ≡ F.zero) → Each (λ a. a ≡ F.zero) (tabulate m f)
  zero_row zero f h = tt
  zero_row (suc m) f h = (h zero, zero_row m (λ i. f (suc i)) (λ i. h (suc i)))

  -- coefficients that are zero from `n` on
  pub val-tabulate_padded : (n m : ℕ) (f : ℕ → A) (x : A) → ((i : ℕ) → n ≤ i → f i ≡ F.zero) → val F (tabulate (n + m) f) x ≡ val F (tabulate n f) x
  val-tabulate_padded zero m f x h = ap (λ k. val F (tabulate k f) x) (zero-add m) ∙ val-zeros F R (tabulate m f) x (zero_row m f (λ i. h i (omega arith))) ∙ sym (val-nil F R x)
  val-tabulate_padded (suc n) m f x h =
      ap (λ k. val F (tabulate k f) x) (suc-add n m)
      ∙ val-cons F R (f zero) (tabulate (n + m) (λ i. f (suc i))) x
      ∙ ap (λ v. F.add (f zero) (F.mul x v)) (val-tabulate_padded n m (λ i. f (suc i)) x (λ i l. h (suc i) (omega (arith, l))))
      ∙ sym (val-cons F R (f zero) (tabulate n (λ i. f (suc i))) x)
