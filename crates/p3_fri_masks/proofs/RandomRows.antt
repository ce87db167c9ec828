-- Random rows drawn one after another, and matrices of them.
use Rattle.std.proofs.Common.{◌≡◌, ℕ, zero, suc, ◌+◌, ◌*◌, ◌<◌, ◌%◌, List, [], ◌∷◌, ◌++◌, length}
use Rattle.std.proofs.Common.{get_or, refl, sym, ap, ap₂, subst, ◌∙◌, arith, suc-add}
use Rattle.std.proofs.lemmas.List.Sums.{sum_by_push, sum_by-cons}
use Rattle.rand_core.specs.Stream.{Stream}
use Rattle.algebra.specs.Nested.{joined}
use Rattle.algebra.proofs.Lists.{Each}
use Rattle.p3_matrix.specs.declared.dense.RowMajorMatrix.{RowMajorMatrix}
use Rattle.p3_matrix.specs.Matrix.{rows, matrix_width}
use Rattle.p3_matrix.specs.Rows.{rows_of}
use Rattle.p3_matrix.specs.Words.{past, randoms}
use Rattle.p3_matrix.proofs.Columns.{rows_of-joined, whole_rows}
use Rattle.p3_matrix.proofs.Words.{past_none, past-add, length-randoms}
use Rattle.p3_fri_masks.specs.Draws.{random_rows, IsRandom, AreRandom, random_words}
use Rattle.p3_fri_masks.proofs.WiderRows.{drawn_in_parts}

module _ {T : Type 0} (f : ℕ → T) where
  past_more : (n width : ℕ) (s : Stream) → past width (past (n * width) s) ≡ past ((n + 1) * width) s
  past_more n width s =
      sym (past-add (n * width) width s)
      ∙ ap (λ k. past k s) (let e : n * width + width ≡ (n + 1) * width = omega arith in e)

  past_first : (width : ℕ) (s : Stream) → s ≡ past (0 * width) s
  past_first width s = sym (past_none s) ∙ ap (λ k. past k s) (let e : 0 ≡ 0 * width = omega arith in e)

  random_rows-next : (n width : ℕ) (s : Stream) → random_rows f (n + 1) width s
      ≡ random_rows f n width s ++ randoms f width (past (n * width) s) ∷ []
  random_rows-next zero width s = ap (λ t. randoms f width t ∷ []) (past_first width s)
  random_rows-next (suc n) width s =
      ap (λ k. random_rows f k width s) (suc-add n 1)
      ∙ ap (λ rs. randoms f width s ∷ rs) (random_rows-next n width (past width s))
      ∙ ap (λ t. randoms f width s ∷ (random_rows f n width (past width s) ++ randoms f width t ∷ []))
      (sym (past-add width (n * width) s)
      ∙ ap (λ k. past k s) (let e : width + n * width ≡ suc n * width = omega arith in e))

  pub length-random_rows : (n width : ℕ) (s : Stream) → length (random_rows f n width s) ≡ n
  length-random_rows zero width s = refl
  length-random_rows (suc n) width s = ap suc (length-random_rows n width (past width s))

  pub length-random_row : (n width : ℕ) (s : Stream) (i : ℕ) → i < n
      → length (get_or (random_rows f n width s) i []) ≡ width
  length-random_row zero width s i l = absurd (omega (arith, l))
  length-random_row (suc n) width s zero l = length-randoms f width s
  length-random_row (suc n) width s (suc i) l =
      length-random_row n width (past width s) i (omega (arith, l))

  -- so many rows were drawn
  pub record AreRowsDrawn (start : Stream) (width n : ℕ) (drawn : List (List T)) (now : Stream)
      : Type 0 where
    pub entries : drawn ≡ random_rows f n width start
    pub stream : now ≡ past (n * width) start

  pub no_row_drawn : (start : Stream) (width : ℕ) (drawn : List (List T)) → drawn ≡ []
      → AreRowsDrawn start width 0 drawn start
  no_row_drawn start width drawn e = record { entries = e; stream = past_first width start }

  pub one_more_row : (start now next : Stream) (width n : ℕ) (drawn grown : List (List T))
      (row : List T) → AreRowsDrawn start width n drawn now → row ≡ randoms f width now
      → next ≡ past width now → grown ≡ drawn ++ row ∷ []
      → AreRowsDrawn start width (n + 1) grown next
  one_more_row start now next width n drawn grown row before is after more = record {
    entries = more
        ∙ ap₂ (λ rs r. rs ++ r ∷ []) before.entries
        (is ∙ ap (λ t. randoms f width t) before.stream)
        ∙ sym (random_rows-next n width start);
    stream = after ∙ ap (λ t. past width t) before.stream ∙ past_more n width start;
  }

  -- rows drawn one after another are values drawn one after another
  joined_random : (n width : ℕ) (s : Stream)
      → joined (random_rows f n width s) ≡ randoms f (n * width) s
  unfolding randoms
  joined_random zero width s = ap (λ k. randoms f k s) (let e : 0 ≡ 0 * width = omega arith in e)
  joined_random (suc n) width s =
      ap (λ xs. randoms f width s ++ xs) (joined_random n width (past width s))
      ∙ sym (drawn_in_parts f width (n * width) s)
      ∙ ap (λ k. randoms f k s) (let e : width + n * width ≡ suc n * width = omega arith in e)

  row_lengths : (n width : ℕ) (s : Stream)
      → Each (λ row. length row ≡ width) (random_rows f n width s)
  row_lengths zero width s = tt
  row_lengths (suc n) width s = (length-randoms f width s, row_lengths n width (past width s))

  pub random_rows_are : (n width size : ℕ) (values : List T) (s : Stream) → 0 < width
      → size ≡ n * width → values ≡ randoms f size s
      → rows_of width values ≡ random_rows f n width s
  random_rows_are n width size values s some is e =
      ap (λ xs. rows_of width xs)
      (e ∙ ap (λ k. randoms f k s) is ∙ sym (joined_random n width s))
      ∙ rows_of-joined width some (random_rows f n width s) (row_lengths n width s)

  pub whole_rows_drawn : (n width size len : ℕ) (values : List T) (s : Stream) → 0 < width
      → size ≡ n * width → values ≡ randoms f size s → len ≡ length values → len % width ≡ 0
  whole_rows_drawn n width size len values s some is e counted =
      whole_rows n width len some (counted ∙ ap length e ∙ length-randoms f size s ∙ is)

-- matrices drawn one after another
module _ {D T : Type 0} (f : ℕ → T) (size : D → ℕ) (width : ℕ) where
  random_push : (ds : List D) (d : D) (s now : Stream) (ms : List (D × RowMajorMatrix T))
      (m : D × RowMajorMatrix T) → AreRandom f size width ds s ms
      → now ≡ past (random_words f size width ds) s → m.0 ≡ d
      → IsRandom f (size d) width now m.1
      → AreRandom f size width (ds ++ d ∷ []) s (ms ++ m ∷ [])
  random_push [] d s now [] m so_far at beside is =
      (beside, subst (λ t. IsRandom f (size d) width t m.1) (at ∙ past_none s) is, tt)
  random_push [] d s now (x ∷ ms) m so_far at beside is = absurd so_far
  random_push (x ∷ ds) d s now [] m so_far at beside is = absurd so_far
  random_push (x ∷ ds) d s now (y ∷ ms) m so_far at beside is = (
    so_far.0,
    so_far.1,
    random_push ds d (past (size x * width) s) now ms m so_far.2
        (at ∙ ap (λ n. past n s) (sum_by-cons (λ (e : D). size e * width) x ds)
        ∙ past-add (size x * width) (random_words f size width ds) s)
        beside is,
  )

  pub one_more_random : (ds : List D) (d : D) (s now : Stream) (ms grown : List (D × RowMajorMatrix T))
      (m : D × RowMajorMatrix T) → AreRandom f size width ds s ms
      → now ≡ past (random_words f size width ds) s → m.0 ≡ d
      → (rows m.1 ≡ random_rows f (size d) width now) → matrix_width m.1 ≡ width
      → grown ≡ ms ++ m ∷ [] → AreRandom f size width (ds ++ d ∷ []) s grown
  one_more_random ds d s now ms grown m so_far at beside entries columns more =
      subst (λ ys. AreRandom f size width (ds ++ d ∷ []) s ys) (sym more)
      (random_push ds d s now ms m so_far at beside (record { entries = entries; columns = columns }))

  pub none_random : (s : Stream) (ms : List (D × RowMajorMatrix T)) → ms ≡ []
      → AreRandom f size width [] s ms
  none_random s ms e = subst (λ ys. AreRandom f size width [] s ys) (sym e) tt

  pub past_one_more_random : (ds : List D) (d : D) (s now next : Stream)
      → now ≡ past (random_words f size width ds) s → next ≡ past (size d * width) now
      → next ≡ past (random_words f size width (ds ++ d ∷ [])) s
  past_one_more_random ds d s now next at after =
      after ∙ ap (λ t. past (size d * width) t) at
      ∙ sym (past-add (random_words f size width ds) (size d * width) s)
      ∙ ap (λ n. past n s) (sym (sum_by_push (λ (e : D). size e * width) ds d))
