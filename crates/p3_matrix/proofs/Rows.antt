-- The rows of a list: how many, where each lies, and what an exchange of two does.
use Rattle.std.proofs.Common.{◌≡◌, ℕ, ◌+◌, ◌*◌, ◌/◌, ◌%◌, ◌<◌, ◌≤◌, List, length, get_or, sym, ap}
use Rattle.std.proofs.Common.{◌∙◌, arith}
use Rattle.std.specs.List.{between}
use Rattle.std.proofs.lemmas.List.{same_lists}
use Rattle.std.proofs.lemmas.List.Edits.{get_or-between, length-between}
use Rattle.std.proofs.lemmas.Nat.{row_fits, div-add-mod'}
use Rattle.algebra.proofs.Lists.{length-tabulate, get_or-tabulate}
use Rattle.p3_matrix.specs.Rows.{rows_of}

module _ {A : Type 0} (w : ℕ) (xs : List A) where
  pub length-rows_of : length (rows_of w xs) ≡ length xs / w
  unfolding rows_of
  length-rows_of = length-tabulate (length xs / w) (λ i. between (i * w) (i * w + w) xs)

  -- each row lies within the list
  pub row_within : (i : ℕ) → i < length xs / w → i * w + w ≤ length xs
  row_within i l = below i (length xs / w) w (length xs) (length xs % w) l (div-add-mod' (length xs) w)
    where
      below : (i q w n r : ℕ) → i < q → q * w + r ≡ n → i * w + w ≤ n
      below i q w n r l e = omega (arith, e, row_fits i w q w l (omega arith))

  pub get_or-rows_of : (i : ℕ) (d : List A) → i < length xs / w → get_or (rows_of w xs) i d ≡ between (i * w) (i * w + w) xs
  unfolding rows_of
  get_or-rows_of i d l = get_or-tabulate (length xs / w) (λ i. between (i * w) (i * w + w) xs) i d l

  pub length-row_of : (i : ℕ) → i < length xs / w → length (between (i * w) (i * w + w) xs) ≡ w
  length-row_of i l = length-between xs (i * w) (i * w + w) (row_within i l) ∙ omega arith

  -- the entry at row `i` and column `j`
  pub get_or-entry : (i j : ℕ) (r : List A) (d : A) → i < length xs / w → j < w → get_or (get_or (rows_of w xs) i r) j d ≡ get_or xs (i * w + j) d
  get_or-entry i j r d l m = ap (λ ys. get_or ys j d) (get_or-rows_of i r l) ∙ get_or-between xs (i * w) (i * w + w) j d (omega (arith, m))

  -- rows that are whole have all entries
  pub length-whole : length xs % w ≡ 0 → length (rows_of w xs) * w ≡ length xs
  length-whole whole = ap (λ n. n * w) length-rows_of ∙ omega (arith, whole, div-add-mod' (length xs) w)

  -- rows given by their entries
  pub row_by_entries : (ys : List A) (i k : ℕ) (d : List A) → i < length xs / w → k < length ys / w
      → ((j : ℕ) (e : A) → j < w → get_or xs (i * w + j) e ≡ get_or ys (k * w + j) e)
      → between (i * w) (i * w + w) xs ≡ between (k * w) (k * w + w) ys
  row_by_entries ys i k d l m h =
      same_lists (between (i * w) (i * w + w) xs) (between (k * w) (k * w + w) ys)
      (length-row_of i l ∙ sym (length-between ys (k * w) (k * w + w) (row_end k m) ∙ omega arith))
      (λ j e b.
      let inside : j < w = omega (arith, b, length-row_of i l) in
      get_or-between xs (i * w) (i * w + w) j e (omega (arith, inside)) ∙ h j e inside ∙ sym (get_or-between ys (k * w) (k * w + w) j e (omega (arith, inside))))
    where
      row_end : (k : ℕ) → k < length ys / w → k * w + w ≤ length ys
      row_end k m = omega (arith, m, row_fits k w (length ys / w) w m (omega arith), div-add-mod' (length ys) w)
