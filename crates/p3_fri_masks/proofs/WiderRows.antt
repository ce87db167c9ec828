-- Wider rows, halved.
use Rattle.std.proofs.Common.{◌≡◌, ℕ, zero, suc, ◌+◌, ◌*◌, ◌<◌, List, [], ◌∷◌, ◌++◌, refl, sym, ap, ap₂, ◌∙◌}
use Rattle.std.proofs.Common.{length, get_or, take, drop, replicate, arith, append_assoc, length-append, zero-add, suc-add}
use Rattle.std.proofs.lemmas.List.{take_at, drop_at}
use Rattle.rand_core.specs.Stream.{Stream, next_u64}
use Rattle.algebra.proofs.Lists.{Each}
use Rattle.p3_matrix.specs.declared.dense.RowMajorMatrix.{RowMajorMatrix}
use Rattle.p3_matrix.specs.Matrix.{rows, matrix_width}
use Rattle.p3_matrix.specs.Words.{past, randoms}
use Rattle.p3_matrix.specs.Columns.{rows_with_random_columns, rows_with_zero_columns}
use Rattle.p3_matrix.proofs.Widths.{row_width}
use Rattle.p3_matrix.proofs.Words.{length-randoms}
use Rattle.p3_fri_masks.specs.Halves.{halved_rows}
use Rattle.p3_fri_masks.specs.Masked.{masked_rows, IsMasked}
use Rattle.p3_fri_masks.specs.Padded.{padded_rows, IsPadded}

-- the rows of a matrix have its width
each_by_entry : {A : Type 0} (P : A → Type 0) (d : A) (xs : List A)
    → ((i : ℕ) → i < length xs → P (get_or xs i d)) → Each P xs
each_by_entry P d [] h = tt
each_by_entry P d (x ∷ xs) h =
    (h 0 (omega arith), each_by_entry P d xs (λ i l. h (suc i) (omega (arith, l))))

pub each_width : {T : Type 0} (m : RowMajorMatrix T) → Each (λ row. length row ≡ matrix_width m) (rows m)
each_width m = each_by_entry (λ row. length row ≡ matrix_width m) [] (rows m) (λ i l. row_width m i l)

module _ {T : Type 0} (from_word : ℕ → T) where
  -- values drawn in two parts
  pub drawn_in_parts : (a b : ℕ) (s : Stream)
      → randoms from_word (a + b) s ≡ randoms from_word a s ++ randoms from_word b (past a s)
  unfolding randoms past
  drawn_in_parts zero b s = ap (λ n. randoms from_word n s) (zero-add b)
  drawn_in_parts (suc a) b s =
      ap (λ n. randoms from_word n s) (suc-add a b)
      ∙ ap (λ xs. from_word (next_u64 s).0 ∷ xs) (drawn_in_parts a b (next_u64 s).1)

  module _ (r width drawn : ℕ) (is : drawn ≡ r + (width + r)) where
    row_drawn : (row : List T) (s : Stream) → row ++ randoms from_word drawn s
        ≡ (row ++ randoms from_word r s) ++ randoms from_word (width + r) (past r s)
    row_drawn row s =
        ap (λ n. row ++ randoms from_word n s) is
        ∙ ap (λ xs. row ++ xs) (drawn_in_parts r (width + r) s)
        ∙ sym (append_assoc row (randoms from_word r s) (randoms from_word (width + r) (past r s)))

    first_length : (row : List T) (s : Stream) → length row ≡ width → length (row ++ randoms from_word r s) ≡ width + r
    first_length row s e =
        length-append row (randoms from_word r s) ∙ ap₂ (λ a b. a + b) e (length-randoms from_word r s)

    -- rows that random values for two follow, cut in two, are masked rows
    pub halves_masked : (rows : List (List T)) (s : Stream) → Each (λ row. length row ≡ width) rows
        → halved_rows (width + r) (rows_with_random_columns from_word drawn rows s)
        ≡ masked_rows from_word r width rows s
    halves_masked [] s h = refl
    halves_masked (row ∷ rows) s h =
        let first = row ++ randoms from_word r s in
        let second = randoms from_word (width + r) (past r s) in
        let cut = row_drawn row s in
        let long = first_length row s h.0 in
        ap₂ (λ x xs. x ∷ xs) (ap (λ xs. take (width + r) xs) cut ∙ take_at first second (width + r) long)
        (ap₂ (λ x xs. x ∷ xs) (ap (λ xs. drop (width + r) xs) cut ∙ drop_at first second (width + r) long)
        (halves_masked rows (past drawn s) h.1
        ∙ ap (λ n. masked_rows from_word r width rows (past n s)) (let e : drawn ≡ width + 2 * r = omega (arith, is) in e)))

  -- a matrix with random values for two rows after each row, cut in two, is masked
  pub masked_by_halves : (r : ℕ) (matrix : RowMajorMatrix T) (s : Stream) (masked wider : RowMajorMatrix T) (width drawn : ℕ)
      → rows masked ≡ halved_rows width (rows wider)
      → rows wider ≡ rows_with_random_columns from_word drawn (rows matrix) s
      → width ≡ matrix_width matrix + r → drawn ≡ r + (matrix_width matrix + r) → matrix_width masked ≡ width
      → IsMasked from_word r matrix s masked
  masked_by_halves r matrix s masked wider width drawn halved random wide more columns = record {
    entries = halved ∙ ap₂ (λ w rs. halved_rows w rs) wide random
        ∙ halves_masked r (matrix_width matrix) drawn more (rows matrix) s (each_width matrix);
    width = columns ∙ wide;
  }

module _ {T : Type 0} (none : T) (width : ℕ) where
  -- rows that as many zeros follow, cut in two, are padded rows
  pub halves_padded : (rows : List (List T)) → Each (λ row. length row ≡ width) rows
      → halved_rows width (rows_with_zero_columns none width rows) ≡ padded_rows none width rows
  halves_padded [] h = refl
  halves_padded (row ∷ rows) h =
      ap₂ (λ x xs. x ∷ xs) (take_at row (replicate width none) width h.0)
      (ap₂ (λ x xs. x ∷ xs) (drop_at row (replicate width none) width h.0) (halves_padded rows h.1))

-- a matrix with as many zeros after each row as it has, cut in two, is padded
pub padded_by_halves : {T : Type 0} (none : T) (matrix padded wider : RowMajorMatrix T) (width : ℕ)
    → rows padded ≡ halved_rows width (rows wider) → rows wider ≡ rows_with_zero_columns none width (rows matrix)
    → width ≡ matrix_width matrix → matrix_width padded ≡ width → IsPadded none matrix padded
padded_by_halves none matrix padded wider width halved zeros wide columns = record {
  entries = halved ∙ ap (λ rs. halved_rows width rs) zeros
      ∙ ap (λ w. halved_rows w (rows_with_zero_columns none w (rows matrix))) wide
      ∙ halves_padded none (matrix_width matrix) (rows matrix) (each_width matrix);
  width = columns ∙ wide;
}
