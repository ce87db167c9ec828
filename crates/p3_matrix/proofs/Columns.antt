-- Rows that grow by columns on the right, one row after another.
use Rattle.std.proofs.Common.{◌≡◌, ℕ, suc, ◌+◌, ◌-◌, ◌*◌, ◌/◌, ◌%◌, ◌<◌, ◌≤◌, List, [], ◌∷◌, ◌++◌}
use Rattle.std.proofs.Common.{length, get_or, take, drop, replicate, sym, ap, ap₂, ◌∙◌, arith}
use Rattle.std.proofs.Common.{length-append, append_assoc, zero-add, suc-add}
use Rattle.std.specs.List.{between}
use Rattle.std.proofs.Math.Nat.{mod-lt}
use Rattle.std.proofs.lemmas.List.{append-nil, drop_more, drop_all, length-replicate, take_at, drop_at, drop-drop}
use Rattle.std.proofs.lemmas.Nat.{div-mul-add, div-add-mod', mod-mul-add}
use Rattle.std.proofs.lemmas.Slice.{between_is}
use Rattle.rand_core.specs.Stream.{Stream}
use Rattle.algebra.specs.Nested.{joined}
use Rattle.algebra.specs.Polynomial.{tabulate}
use Rattle.algebra.proofs.Lists.{Each, tabulate-equal}
use Rattle.p3_matrix.specs.declared.dense.RowMajorMatrix.{RowMajorMatrix}
use Rattle.p3_matrix.specs.Matrix.{rows, matrix_width}
use Rattle.p3_matrix.specs.Rows.{rows_of}
use Rattle.p3_matrix.specs.Words.{past, randoms}
use Rattle.p3_matrix.specs.Columns.{rows_with_random_columns, rows_with_zero_columns}
use Rattle.p3_matrix.proofs.Widths.{row_width}
use Rattle.p3_matrix.proofs.Words.{past_none, past-add, length-randoms}

-- the rows of lists that lie one after another
module _ {A : Type 0} where
  take-append-add : (xs ys : List A) (n : ℕ) → take (length xs + n) (xs ++ ys) ≡ xs ++ take n ys
  take-append-add [] ys n = ap (λ k. take k ys) (zero-add n)
  take-append-add (x ∷ xs) ys n =
      ap (λ k. take k (x ∷ (xs ++ ys))) (suc-add (length xs) n)
      ∙ ap (λ zs. x ∷ zs) (take-append-add xs ys n)

one_more : (w n : ℕ) → 0 < w → (w + n) / w ≡ suc (n / w)
one_more w n some =
    ap (λ k. k / w) (let s : w + n ≡ suc (n / w) * w + n % w = omega (arith, div-add-mod' n w) in s)
    ∙ div-mul-add (suc (n / w)) w (n % w) (mod-lt n some)

module _ {A : Type 0} (w : ℕ) (some : 0 < w) where
  first_row : (x ys : List A) → length x ≡ w → between (0 * w) (0 * w + w) (x ++ ys) ≡ x
  first_row x ys e =
      between_is (x ++ ys) (0 * w) (0 * w + w)
      ∙ ap₂ (λ a b. drop a (take b (x ++ ys))) (let z : 0 * w ≡ 0 = omega arith in z) (let z : 0 * w + w ≡ w = omega arith in z)
      ∙ take_at x ys w e

  later_row : (x ys : List A) (i : ℕ) → length x ≡ w
      → between (suc i * w) (suc i * w + w) (x ++ ys) ≡ between (i * w) (i * w + w) ys
  later_row x ys i e =
      between_is (x ++ ys) (suc i * w) (suc i * w + w)
      ∙ ap₂ (λ a b. drop a (take b (x ++ ys))) (let s : suc i * w ≡ w + i * w = omega arith in s)
      (let s : suc i * w + w ≡ length x + (i * w + w) = omega (arith, e) in s)
      ∙ ap (λ zs. drop (w + i * w) zs) (take-append-add x ys (i * w + w))
      ∙ sym (drop-drop (i * w) w (x ++ take (i * w + w) ys))
      ∙ ap (λ zs. drop (i * w) zs) (drop_at x (take (i * w + w) ys) w e)
      ∙ sym (between_is ys (i * w) (i * w + w))

  rows_of-append : (x ys : List A) → length x ≡ w → rows_of w (x ++ ys) ≡ x ∷ rows_of w ys
  unfolding rows_of
  rows_of-append x ys e =
      ap (λ n. tabulate n (λ i. between (i * w) (i * w + w) (x ++ ys)))
      (ap (λ n. n / w) (length-append x ys ∙ ap (λ n. n + length ys) e) ∙ one_more w (length ys) some)
      ∙ ap₂ (λ r rs. r ∷ rs) (first_row x ys e)
      (tabulate-equal (length ys / w) (λ i. between (suc i * w) (suc i * w + w) (x ++ ys))
      (λ i. between (i * w) (i * w + w) ys) (λ i l. later_row x ys i e))

  rows_of-nil : rows_of {A = A} w [] ≡ []
  unfolding rows_of
  rows_of-nil =
      ap (λ n. tabulate n (λ i. between (i * w) (i * w + w) []))
      (ap (λ k. k / w) (let s : 0 ≡ 0 * w + 0 = omega arith in s) ∙ div-mul-add 0 w 0 some)

  pub rows_of-joined : (rs : List (List A)) → Each (λ r. length r ≡ w) rs → rows_of w (joined rs) ≡ rs
  rows_of-joined [] h = rows_of-nil
  rows_of-joined (r ∷ rs) h = rows_of-append r (joined rs) h.0 ∙ ap (λ t. r ∷ t) (rows_of-joined rs h.1)

-- the rows of a matrix have its width
each_by_entry : {A : Type 0} (P : A → Type 0) (d : A) (xs : List A) → ((i : ℕ) → i < length xs → P (get_or xs i d)) → Each P xs
each_by_entry P d [] h = tt
each_by_entry P d (x ∷ xs) h = (h 0 (omega arith), each_by_entry P d xs (λ i l. h (suc i) (omega (arith, l))))

each_width : {T : Type 0} (m : RowMajorMatrix T) → Each (λ row. length row ≡ matrix_width m) (rows m)
each_width m = each_by_entry (λ row. length row ≡ matrix_width m) [] (rows m) (λ i l. row_width m i l)

-- so many whole rows
pub whole_rows : (n w len : ℕ) → 0 < w → len ≡ n * w → len % w ≡ 0
whole_rows n w len some e = ap (λ t. t % w) (let s : len ≡ n * w + 0 = omega (arith, e) in s) ∙ mod-mul-add n w 0 some

-- rows with random columns
module _ {T : Type 0} (f : ℕ → T) (count : ℕ) where
  wider_lengths : (width : ℕ) (rs : List (List T)) (s : Stream) → Each (λ row. length row ≡ width) rs
      → Each (λ row. length row ≡ width + count) (rows_with_random_columns f count rs s)
  wider_lengths width [] s h = tt
  wider_lengths width (row ∷ rs) s h = (
    length-append row (randoms f count s) ∙ ap₂ (λ a b. a + b) h.0 (length-randoms f count s),
    wider_lengths width rs (past count s) h.1,
  )

  group : (a b c t : List T) → (a ++ b) ++ c ++ t ≡ a ++ ((b ++ c) ++ t)
  group a b c t = simp append_assoc

  -- the rows from `i` on, drawn from `now` on, complete what is written to the whole
  pub record IsWidening (rs : List (List T)) (start : Stream) (i : ℕ) (written : List T) (now : Stream) : Type 0 where
    pub values : written ++ joined (rows_with_random_columns f count (drop i rs) now) ≡ joined (rows_with_random_columns f count rs start)
    pub stream : past ((length rs - i) * count) now ≡ past (length rs * count) start

  pub row_widened : (rs : List (List T)) (start now next : Stream) (i : ℕ) (row written longer grown : List T)
      → IsWidening rs start i written now → i < length rs → row ≡ get_or rs i []
      → longer ≡ written ++ row → grown ≡ longer ++ randoms f count now → next ≡ past count now
      → IsWidening rs start (i + 1) grown next
  row_widened rs start now next i row written longer grown before l is with_row with_randoms after =
      let rest = drop (i + 1) rs in
      let split : drop i rs ≡ row ∷ rest = drop_more rs i [] l ∙ ap (λ x. x ∷ rest) (sym is) in
      record {
        values = ap₂ (λ xs t. xs ++ joined (rows_with_random_columns f count rest t))
            (with_randoms ∙ ap (λ xs. xs ++ randoms f count now) with_row) after
            ∙ group written row (randoms f count now) (joined (rows_with_random_columns f count rest (past count now)))
            ∙ ap (λ left. written ++ joined (rows_with_random_columns f count left now)) (sym split)
            ∙ before.values;
        stream = ap (λ t. past ((length rs - (i + 1)) * count) t) after
            ∙ sym (past-add count ((length rs - (i + 1)) * count) now)
            ∙ ap (λ k. past k now) (sum (length rs - (i + 1)) count ∙ ap (λ m. m * count) (let e : suc (length rs - (i + 1)) ≡ length rs - i = omega (arith, l) in e))
            ∙ before.stream;
      }
    where
      sum : (m k : ℕ) → k + m * k ≡ suc m * k
      sum m k = omega arith

  pub past_all_rows : (n i : ℕ) (now end : Stream) → n ≤ i → past ((n - i) * count) now ≡ end → now ≡ end
  past_all_rows n i now end l e = sym (past_none now) ∙ ap (λ k. past k now) (none n i count l) ∙ e
    where
      none : (n i k : ℕ) → n ≤ i → 0 ≡ (n - i) * k
      none n i k l =
          let z : n - i ≡ 0 = omega (arith, l) in
          sym (ap (λ m. m * k) z ∙ (let o : 0 * k ≡ 0 = omega arith in o))

  -- once all rows are written, the rows of the list are the wider ones
  pub random_rows_written : (matrix : RowMajorMatrix T) (i width : ℕ) (written : List T) (s end : Stream)
      → length (rows matrix) ≤ i → 0 < width → width ≡ matrix_width matrix + count
      → written ++ joined (rows_with_random_columns f count (drop i (rows matrix)) end)
      ≡ joined (rows_with_random_columns f count (rows matrix) s)
      → rows_of width written ≡ rows_with_random_columns f count (rows matrix) s
  random_rows_written matrix i width written s end l some is e =
      let rs = rows matrix in
      let wider = rows_with_random_columns f count rs s in
      let all : written ≡ joined wider =
      sym (ap (λ left. written ++ joined (rows_with_random_columns f count left end)) (drop_all i rs l) ∙ append-nil written) ∙ e in
      let own : 0 < matrix_width matrix + count = omega (arith, some, is) in
      ap₂ (λ w xs. rows_of w xs) is all
      ∙ rows_of-joined (matrix_width matrix + count) own wider (wider_lengths (matrix_width matrix) rs s (each_width matrix))

-- rows with columns of zeros
module _ {T : Type 0} (zero : T) (count : ℕ) where
  zero_lengths : (width : ℕ) (rs : List (List T)) → Each (λ row. length row ≡ width) rs
      → Each (λ row. length row ≡ width + count) (rows_with_zero_columns zero count rs)
  zero_lengths width [] h = tt
  zero_lengths width (row ∷ rs) h = (
    length-append row (replicate count zero) ∙ ap₂ (λ a b. a + b) h.0 (length-replicate count zero),
    zero_lengths width rs h.1,
  )

  -- once all rows are written, the rows of the list are the wider ones
  pub zero_rows_written : (matrix : RowMajorMatrix T) (i width : ℕ) (written : List T)
      → length (rows matrix) ≤ i → 0 < width → width ≡ matrix_width matrix + count
      → written ++ joined (rows_with_zero_columns zero count (drop i (rows matrix)))
      ≡ joined (rows_with_zero_columns zero count (rows matrix))
      → rows_of width written ≡ rows_with_zero_columns zero count (rows matrix)
  zero_rows_written matrix i width written l some is e =
      let rs = rows matrix in
      let wider = rows_with_zero_columns zero count rs in
      let all : written ≡ joined wider =
      sym (ap (λ left. written ++ joined (rows_with_zero_columns zero count left)) (drop_all i rs l) ∙ append-nil written) ∙ e in
      let own : 0 < matrix_width matrix + count = omega (arith, some, is) in
      ap₂ (λ w xs. rows_of w xs) is all
      ∙ rows_of-joined (matrix_width matrix + count) own wider (zero_lengths (matrix_width matrix) rs (each_width matrix))
