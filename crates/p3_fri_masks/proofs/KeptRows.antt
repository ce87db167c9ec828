-- Masked and padded rows by their indices.
use Rattle.std.proofs.Common.{◌≡◌, ℕ, zero, suc, ◌+◌, ◌*◌, ◌<◌, List, [], ◌∷◌, ◌++◌, refl, sym, ap, ◌∙◌}
use Rattle.std.proofs.Common.{length, get_or, replicate, arith}
use Rattle.rand_core.specs.Stream.{Stream}
use Rattle.p3_matrix.specs.Words.{past, randoms}
use Rattle.p3_matrix.proofs.Words.{past_none, past-add}
use Rattle.p3_fri_masks.specs.Masked.{masked_rows}
use Rattle.p3_fri_masks.specs.Padded.{padded_rows}
use Rattle.p3_fri_masks.specs.KeptRows.{HasMasksBetween, HasZerosBetween}

-- entry `2 * (i + 1)` of a list of two more is entry `2 * i`
later_even : {A : Type 0} (x y : A) (xs : List A) (i : ℕ) (d : A)
    → get_or (x ∷ y ∷ xs) (2 * suc i) d ≡ get_or xs (2 * i) d
later_even x y xs i d = ap (λ n. get_or (x ∷ y ∷ xs) n d) (let e : 2 * suc i ≡ suc (suc (2 * i)) = omega arith in e)

later_odd : {A : Type 0} (x y : A) (xs : List A) (i : ℕ) (d : A)
    → get_or (x ∷ y ∷ xs) (2 * suc i + 1) d ≡ get_or xs (2 * i + 1) d
later_odd x y xs i d =
    ap (λ n. get_or (x ∷ y ∷ xs) n d) (let e : 2 * suc i + 1 ≡ suc (suc (2 * i + 1)) = omega arith in e)

module _ {T : Type 0} (from_word : ℕ → T) (r width : ℕ) where
  -- the words before a row's
  first_words : (s : Stream) → s ≡ past (0 * (width + 2 * r)) s
  first_words s = sym (ap (λ n. past n s) (let e : 0 * (width + 2 * r) ≡ 0 = omega arith in e) ∙ past_none s)

  first_words_below : (s : Stream) → past r s ≡ past (0 * (width + 2 * r) + r) s
  first_words_below s = ap (λ n. past n s) (let e : r ≡ 0 * (width + 2 * r) + r = omega arith in e)

  later_words : (i more : ℕ) (s : Stream)
      → past (i * (width + 2 * r) + more) (past (width + 2 * r) s) ≡ past (suc i * (width + 2 * r) + more) s
  later_words i more s =
      sym (past-add (width + 2 * r) (i * (width + 2 * r) + more) s) ∙ ap (λ n. past n s) (count i (width + 2 * r) more)
    where
      count : (i n more : ℕ) → n + (i * n + more) ≡ suc i * n + more
      count i n more = omega arith

  later_row_words : (i : ℕ) (s : Stream)
      → past (i * (width + 2 * r)) (past (width + 2 * r) s) ≡ past (suc i * (width + 2 * r)) s
  later_row_words i s =
      sym (past-add (width + 2 * r) (i * (width + 2 * r)) s) ∙ ap (λ n. past n s) (count i (width + 2 * r))
    where
      count : (i n : ℕ) → n + i * n ≡ suc i * n
      count i n = omega arith

  pub length-masked_rows : (rows : List (List T)) (s : Stream)
      → length (masked_rows from_word r width rows s) ≡ 2 * length rows
  length-masked_rows [] s = omega arith
  length-masked_rows (row ∷ rows) s =
      omega (arith, length-masked_rows rows (past (width + 2 * r) s))

  even_row : (rows : List (List T)) (s : Stream) (i : ℕ) → i < length rows
      → get_or (masked_rows from_word r width rows s) (2 * i) []
      ≡ get_or rows i [] ++ randoms from_word r (past (i * (width + 2 * r)) s)
  even_row [] s i l = absurd (omega (arith, l))
  even_row (row ∷ rows) s zero l = ap (λ t. row ++ randoms from_word r t) (first_words s)
  even_row (row ∷ rows) s (suc i) l =
      let rest = masked_rows from_word r width rows (past (width + 2 * r) s) in
      later_even (row ++ randoms from_word r s) (randoms from_word (width + r) (past r s)) rest i []
      ∙ even_row rows (past (width + 2 * r) s) i (omega (arith, l))
      ∙ ap (λ t. get_or rows i [] ++ randoms from_word r t) (later_row_words i s)

  odd_row : (rows : List (List T)) (s : Stream) (i : ℕ) → i < length rows
      → get_or (masked_rows from_word r width rows s) (2 * i + 1) []
      ≡ randoms from_word (width + r) (past (i * (width + 2 * r) + r) s)
  odd_row [] s i l = absurd (omega (arith, l))
  odd_row (row ∷ rows) s zero l = ap (λ t. randoms from_word (width + r) t) (first_words_below s)
  odd_row (row ∷ rows) s (suc i) l =
      let rest = masked_rows from_word r width rows (past (width + 2 * r) s) in
      later_odd (row ++ randoms from_word r s) (randoms from_word (width + r) (past r s)) rest i []
      ∙ odd_row rows (past (width + 2 * r) s) i (omega (arith, l))
      ∙ ap (λ t. randoms from_word (width + r) t) (later_words i r s)

  pub masks_between : (rows : List (List T)) (s : Stream)
      → HasMasksBetween from_word r width rows s (masked_rows from_word r width rows s)
  masks_between rows s = record {
    height = length-masked_rows rows s;
    even = λ i l. even_row rows s i l;
    odd = λ i l. odd_row rows s i l;
  }

module _ {T : Type 0} (none : T) (width : ℕ) where
  pub length-padded_rows : (rows : List (List T)) → length (padded_rows none width rows) ≡ 2 * length rows
  length-padded_rows [] = omega arith
  length-padded_rows (row ∷ rows) = omega (arith, length-padded_rows rows)

  even_kept : (rows : List (List T)) (i : ℕ) → i < length rows
      → get_or (padded_rows none width rows) (2 * i) [] ≡ get_or rows i []
  even_kept [] i l = absurd (omega (arith, l))
  even_kept (row ∷ rows) zero l = refl
  even_kept (row ∷ rows) (suc i) l =
      later_even row (replicate width none) (padded_rows none width rows) i []
      ∙ even_kept rows i (omega (arith, l))

  odd_zero : (rows : List (List T)) (i : ℕ) → i < length rows
      → get_or (padded_rows none width rows) (2 * i + 1) [] ≡ replicate width none
  odd_zero [] i l = absurd (omega (arith, l))
  odd_zero (row ∷ rows) zero l = refl
  odd_zero (row ∷ rows) (suc i) l =
      later_odd row (replicate width none) (padded_rows none width rows) i []
      ∙ odd_zero rows i (omega (arith, l))

  pub zeros_between : (rows : List (List T)) → HasZerosBetween none width rows (padded_rows none width rows)
  zeros_between rows = record {
    height = length-padded_rows rows;
    even = λ i l. even_kept rows i l;
    odd = λ i l. odd_zero rows i l;
  }
