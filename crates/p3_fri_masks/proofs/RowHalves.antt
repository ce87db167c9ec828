-- The rows of a list, each cut in the middle.
use Rattle.std.proofs.Common.{◌≡◌, ℕ, zero, suc, ◌+◌, ◌*◌, ◌%◌, ◌<◌, ◌≤◌, List, [], ◌∷◌, ◌++◌}
use Rattle.std.proofs.Common.{length, take, drop, refl, sym, subst, ap, ap₂, ◌∙◌, arith, append_assoc, length-drop}
use Rattle.std.proofs.lemmas.List.{length-take-le, take-append-drop}
use Rattle.algebra.specs.Nested.{joined}
use Rattle.algebra.proofs.Lists.{Each}
use Rattle.p3_matrix.specs.Rows.{rows_of}
use Rattle.p3_matrix.proofs.Columns.{rows_of-joined, whole_rows}
use Rattle.p3_fri_masks.specs.Halves.{halved_rows}

module _ {A : Type 0} where
  -- the first `n` blocks of `w` entries each
  blocks : (w n : ℕ) → List A → List (List A)
  blocks w zero xs = []
  blocks w (suc n) xs = take w xs ∷ blocks w n (drop w xs)

  first_fits : (w n : ℕ) (xs : List A) → length xs ≡ suc n * w → w ≤ length xs
  first_fits w n xs e = omega (arith, e, add w n)
    where
      add : (w n : ℕ) → suc n * w ≡ w + n * w
      add w n = omega arith

  rest_counted : (w n : ℕ) (xs : List A) → length xs ≡ suc n * w → length (drop w xs) ≡ n * w
  rest_counted w n xs e = length-drop w xs ∙ omega (arith, e, add w n)
    where
      add : (w n : ℕ) → suc n * w ≡ w + n * w
      add w n = omega arith

  joined_blocks : (w n : ℕ) (xs : List A) → length xs ≡ n * w → joined (blocks w n xs) ≡ xs
  unfolding blocks
  joined_blocks w zero [] e = refl
  joined_blocks w zero (x ∷ xs) e = absurd (omega (arith, e))
  joined_blocks w (suc n) xs e =
      ap (λ ys. take w xs ++ ys) (joined_blocks w n (drop w xs) (rest_counted w n xs e))
      ∙ take-append-drop w xs

  block_lengths : (w n : ℕ) (xs : List A) → length xs ≡ n * w → Each (λ block. length block ≡ w) (blocks w n xs)
  unfolding blocks
  block_lengths w zero xs e = tt
  block_lengths w (suc n) xs e =
      (length-take-le w xs (first_fits w n xs e), block_lengths w n (drop w xs) (rest_counted w n xs e))

  rows_are_blocks : (w n : ℕ) (xs : List A) → 0 < w → length xs ≡ n * w → rows_of w xs ≡ blocks w n xs
  rows_are_blocks w n xs some e =
      ap (λ ys. rows_of w ys) (sym (joined_blocks w n xs e))
      ∙ rows_of-joined w some (blocks w n xs) (block_lengths w n xs e)

  -- whole rows, one after another, are the list
  joined_rows : (w n : ℕ) (xs : List A) → 0 < w → length xs ≡ n * w → joined (rows_of w xs) ≡ xs
  joined_rows w n xs some e = ap (λ rows. joined rows) (rows_are_blocks w n xs some e) ∙ joined_blocks w n xs e

  row_lengths : (w n : ℕ) (xs : List A) → 0 < w → length xs ≡ n * w → Each (λ row. length row ≡ w) (rows_of w xs)
  row_lengths w n xs some e =
      rw (rows_are_blocks w n xs some e) (block_lengths w n xs e)

  halved_joined : (w : ℕ) (rows : List (List A)) → joined (halved_rows w rows) ≡ joined rows
  halved_joined w [] = refl
  halved_joined w (row ∷ rows) =
      sym (append_assoc (take w row) (drop w row) (joined (halved_rows w rows)))
      ∙ ap₂ (λ xs ys. xs ++ ys) (take-append-drop w row) (halved_joined w rows)

  halved_lengths : (w : ℕ) (rows : List (List A)) → Each (λ row. length row ≡ w + w) rows
      → Each (λ row. length row ≡ w) (halved_rows w rows)
  halved_lengths w [] h = tt
  halved_lengths w (row ∷ rows) h = (
    length-take-le w row (omega (arith, h.0)),
    (length-drop w row ∙ omega (arith, h.0), halved_lengths w rows h.1),
  )

  -- so many whole rows of twice the width, read as rows of the width
  pub rows_halved : (w double n : ℕ) (xs : List A) → 0 < w → double ≡ w + w → length xs ≡ n * double
      → rows_of w xs ≡ halved_rows w (rows_of double xs)
  rows_halved w double n xs some is e =
      let rows = rows_of double xs in
      let twice : 0 < double = omega (arith, some, is) in
      ap (λ ys. rows_of w ys) (sym (halved_joined w rows ∙ joined_rows double n xs twice e))
      ∙ rows_of-joined w some (halved_rows w rows)
      (halved_lengths w rows (subst (λ k. Each (λ row. length row ≡ k) rows) is (row_lengths double n xs twice e)))

-- whole rows of twice the width are whole rows
pub whole_halves : (n w double len : ℕ) → 0 < w → double ≡ w + w → len ≡ n * double → len % w ≡ 0
whole_halves n w double len some is e =
    whole_rows (n + n) w len some (e ∙ ap (λ k. n * k) is ∙ spread n w)
  where
    spread : (n w : ℕ) → n * (w + w) ≡ (n + n) * w
    spread n w = omega arith
