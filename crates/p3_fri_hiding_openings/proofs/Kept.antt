-- Rows of which the first entries are kept, one row after another.
use Rattle.std.proofs.Common.{◌≡◌, ℕ, ◌<◌, ◌≤◌, List, [], ◌∷◌, ◌++◌, length, take, drop, map}
use Rattle.std.proofs.Common.{sym, ap, ◌∙◌, subst}
use Rattle.std.proofs.lemmas.List.{append-nil, drop_all, length-take-le}
use Rattle.algebra.specs.Nested.{joined}
use Rattle.algebra.proofs.Lists.{Each}
use Rattle.p3_matrix.specs.declared.dense.RowMajorMatrix.{RowMajorMatrix}
use Rattle.p3_matrix.specs.Matrix.{rows, matrix_width}
use Rattle.p3_matrix.specs.Rows.{rows_of}
use Rattle.p3_matrix.proofs.Columns.{rows_of-joined}
use Rattle.p3_fri_masks.proofs.WiderRows.{each_width}

module _ {T : Type 0} (kept : ℕ) where
  abbrev pub kept_rows : List (List T) → List (List T)
  kept_rows rs = map (λ row. take kept row) rs

  kept_lengths : (width : ℕ) (rs : List (List T)) → kept ≤ width
      → Each (λ row. length row ≡ width) rs → Each (λ row. length row ≡ kept) (kept_rows rs)
  kept_lengths width [] within h = tt
  kept_lengths width (row ∷ rs) within h = (
    length-take-le kept row (subst (λ n. kept ≤ n) (sym h.0) within),
    kept_lengths width rs within h.1,
  )

  -- once all rows are written, the rows of the list are the kept ones
  pub kept_rows_written : (matrix : RowMajorMatrix T) (i : ℕ) (written : List T)
      → length (rows matrix) ≤ i → 0 < kept → kept ≤ matrix_width matrix
      → written ++ joined (kept_rows (drop i (rows matrix))) ≡ joined (kept_rows (rows matrix))
      → rows_of kept written ≡ kept_rows (rows matrix)
  kept_rows_written matrix i written all some within e =
      let rs = rows matrix in
      let whole : written ≡ joined (kept_rows rs) =
      sym (ap (λ left. written ++ joined (kept_rows left)) (drop_all i rs all) ∙ append-nil written)
      ∙ e in
      ap (λ xs. rows_of kept xs) whole
      ∙ rows_of-joined kept some (kept_rows rs)
      (kept_lengths (matrix_width matrix) rs within (each_width matrix))
