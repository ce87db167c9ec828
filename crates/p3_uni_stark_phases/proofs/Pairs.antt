-- Chunks beside their domains.
use Rattle.std.proofs.Common.{◌≡◌, ℕ, ◌+◌, ◌*◌, ◌/◌, ◌^◌, ◌<◌, List, [], length, map, get_or, All}
use Rattle.std.proofs.Common.{sym, ap, ◌∙◌, arith, pow_pos}
use Rattle.std.proofs.lemmas.List.{length-map, get_or-map}
use Rattle.algebra.specs.Field.{FieldOps}
use Rattle.algebra.specs.Polynomial.{tabulate}
use Rattle.algebra.proofs.Lists.{length-tabulate, get_or-tabulate, map-map}
use Rattle.p3_matrix.specs.declared.dense.RowMajorMatrix.{RowMajorMatrix}
use Rattle.p3_matrix.specs.Matrix.{rows, matrix_width}
use Rattle.p3_matrix.proofs.Rows.{length-rows_of, get_or-rows_of, length-row_of}
use Rattle.p3_uni_stark_identity.specs.Chunks.{chunk_shifts}
use Rattle.p3_uni_stark_quotient.specs.Chunked.{chunk_rows}
use Rattle.p3_uni_stark_phases.specs.Chunks.{AreChunkPairs}

-- the rows of a matrix are as wide as it is
pub row_width : {T : Type 0} (m : RowMajorMatrix T) (i : ℕ) → i < length (rows m)
    → length (get_or (rows m) i []) ≡ matrix_width m
unfolding rows matrix_width
row_width m i l =
    let below : i < length m.values.items / m.width =
    omega (arith, l, length-rows_of m.width m.values.items) in
    ap length (get_or-rows_of m.width m.values.items i [] below)
    ∙ length-row_of m.width m.values.items i below

-- as many as what they are mapped to
pub many_mapped : {X Y : Type 0} (xs : List X) (f : X → Y) (n : ℕ) (g : ℕ → Y)
    → map f xs ≡ tabulate n g → length xs ≡ n
many_mapped xs f n g e = sym (length-map xs f) ∙ ap length e ∙ length-tabulate n g

module _ {V A Dom : Type 0} (F : FieldOps V) (root : ℕ → V) (generator : V) (dimension : ℕ)
    (shift : Dom → V) (log_size : Dom → ℕ) (k d : ℕ) (pairs : List (Dom × RowMajorMatrix V))
    (domains : List Dom) (chunks : List (RowMajorMatrix V)) (firsts : map (λ e. e.0) pairs ≡ domains)
    (seconds : map (λ e. e.1) pairs ≡ chunks)
    (shifts : map shift domains ≡ chunk_shifts F root generator k d)
    (sizes : All (λ n. n ≡ k) (map log_size domains)) (coefficients : A → List V) (nothing : A)
    (values : List A) (dims : (x : A) → length (coefficients x) ≡ dimension)
    (rows_are : map rows chunks ≡ tabulate (2 ^ d) (chunk_rows coefficients nothing k d values))
  where
    pub rows_paired : map (λ e. rows e.1) pairs
        ≡ tabulate (2 ^ d) (chunk_rows coefficients nothing k d values)
    rows_paired = sym (map-map rows (λ e. e.1) pairs) ∙ ap (λ ms. map rows ms) seconds ∙ rows_are

    many : length pairs ≡ 2 ^ d
    many = many_mapped pairs (λ e. rows e.1) (2 ^ d) (chunk_rows coefficients nothing k d values)
        rows_paired

    rows_at : (i : ℕ) (e : Dom × RowMajorMatrix V) → i < length pairs
        → rows (get_or pairs i e).1 ≡ chunk_rows coefficients nothing k d values i
    rows_at i e l =
        sym (get_or-map (λ e. rows e.1) pairs i e [] l)
        ∙ ap (λ rs. get_or rs i []) rows_paired
        ∙ get_or-tabulate (2 ^ d) (chunk_rows coefficients nothing k d values) i []
        (omega (arith, l, many))

    height_at : (i : ℕ) (e : Dom × RowMajorMatrix V) → i < length pairs
        → length (rows (get_or pairs i e).1) ≡ 2 ^ k
    height_at i e l = ap length (rows_at i e l)
        ∙ length-tabulate (2 ^ k) (λ j. coefficients (get_or values (i + j * 2 ^ d) nothing))

    pub are_pairs : AreChunkPairs F root generator dimension shift log_size k d pairs
    are_pairs = record {
      shifts = sym (map-map shift (λ e. e.0) pairs) ∙ ap (λ ds. map shift ds) firsts ∙ shifts;
      sizes = λ i e l.
          sym (get_or-map (λ e. log_size e.0) pairs i e 0 l)
          ∙ ap (λ ns. get_or ns i 0) (sym (map-map log_size (λ e. e.0) pairs)
          ∙ ap (λ ds. map log_size ds) firsts)
          ∙ sizes i 0 (omega (
            arith,
            l,
            length-map domains log_size,
            length-map pairs (λ e. e.0),
            ap length firsts,
          ));
      heights = height_at;
      widths = λ i e l.
          let m = (get_or pairs i e).1 in
          let tall = height_at i e l in
          sym (row_width m 0 (omega (arith, tall, pow_pos k)))
          ∙ ap length (ap (λ rs. get_or rs 0 []) (rows_at i e l)
          ∙ get_or-tabulate (2 ^ k) (λ j. coefficients (get_or values (i + j * 2 ^ d) nothing)) 0 []
          (pow_pos k))
          ∙ dims (get_or values (i + 0 * 2 ^ d) nothing);
    }
