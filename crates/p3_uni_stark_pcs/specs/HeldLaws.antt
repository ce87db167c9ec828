-- What is held of honest data are polynomials of as many coefficients as its domain has points.
use Rattle.std.specs.Prelude.{◌≡◌, ◌<◌, ◌≤◌, ℕ, ◌+◌, ◌-◌, ◌/◌, ◌^◌, suc, List, [], ◌∷◌}
use Rattle.std.specs.Prelude.{map, length, take, All, slice_index_or, refl}
use Rattle.std.proofs.Common.{sym, ap, ◌∙◌, arith}
use Rattle.std.proofs.lemmas.List.{length-map, length-take-le, get_or-take, take-map}
use Rattle.std.proofs.lemmas.List.Elements.{All-map}
use Rattle.std.proofs.Math.Nat.{pow-le-pow_right}
use Rattle.algebra.specs.Field.{FieldOps}
use Rattle.algebra.specs.Polynomial.{val}
use Rattle.algebra.specs.Cosets.{coset_pt}
use Rattle.algebra.specs.Interpolation.{interpolant, slopes}
use Rattle.algebra.specs.Quotients.{values_at}
use Rattle.algebra.proofs.Division.{length-plus_multiple}
use Rattle.algebra.proofs.Lists.{length-tabulate, get_or-tabulate}
use Rattle.p3_matrix.specs.declared.dense.RowMajorMatrix.{RowMajorMatrix}
use Rattle.p3_matrix.specs.Matrix.{rows, matrix_width}
use Rattle.p3_dft.specs.Evaluations.{column}
use Rattle.p3_pcs.specs.Requests.{Held}
use Rattle.p3_fri_relation.specs.Setting.{Fields}
use Rattle.p3_fri_openings.specs.Log2.{log2}
use Rattle.p3_fri_openings.specs.Committed.{coset_of, committed, committed_column}
use Rattle.p3_fri_openings.proofs.Log2.{pow-divided}
use Rattle.p3_fri_openings.specs.Held.{held_in, HoldsWords}
use Rattle.p3_fri_hiding_openings.specs.Halves.{shown_of}
use Rattle.p3_uni_stark_pcs.specs.Laws.{HoldsPolynomials}
use Rattle.p3_uni_stark_pcs.specs.Fields.{stark_fields}

-- the interpolating polynomial has as many coefficients as there are points
module _ {A : Type 0} (F : FieldOps A) where
  length-slopes : (x y : A) (xs ys : List A) → length xs ≡ length ys
      → length (slopes F x y xs ys) ≡ length xs
  length-slopes x y [] ys e = refl
  length-slopes x y (a ∷ xs) [] e = absurd (omega (arith, e))
  length-slopes x y (a ∷ xs) (b ∷ ys) e = ap suc (length-slopes x y xs ys (omega (arith, e)))

  length-interpolant : (xs ys : List A) → length xs ≡ length ys
      → length (interpolant F xs ys) ≡ length xs
  length-interpolant [] ys e = refl
  length-interpolant (x ∷ xs) [] e = absurd (omega (arith, e))
  length-interpolant (x ∷ xs) (y ∷ ys) e =
      let same : length xs ≡ length ys = omega (arith, e) in
      length-plus_multiple F x y (interpolant F xs (slopes F x y xs ys))
      ∙ ap suc (length-interpolant xs (slopes F x y xs ys) (sym (length-slopes x y xs ys same)))

module _ {F E : Type 0} (f : Fields F E) (basis : ℕ → E) (canonical : F → ℕ) where
  -- polynomials of as many coefficients as the domain has points are held
  abbrev HoldsAny : Held E → Type 0
  HoldsAny m = HoldsPolynomials (stark_fields f basis canonical) m

  module _ (b : ℕ) where
    -- the polynomial of a column of words of `2^(k + b)` entries has `2^k` coefficients
    committed_degree : (k : ℕ) (ys : List F) → length ys ≡ 2 ^ (k + b)
        → length (committed_column f b ys) ≡ 2 ^ k
    committed_degree k ys size =
        let count : length ys / 2 ^ b ≡ 2 ^ k = ap (λ n. n / 2 ^ b) size ∙ pow-divided k b in
        let more : 2 ^ k ≤ 2 ^ (k + b) =
        pow-le-pow_right {n = 2} (omega arith) {i = k} {j = k + b} (omega arith) in
        let n = length ys / 2 ^ b in
        let points = length-tabulate n (λ i. coset_pt f.base f.root f.shift i (log2 n)) in
        length-interpolant f.base (coset_of f n) (take n ys)
        (points ∙ sym (length-take-le n ys (omega (arith, count, more, size))))
        ∙ points ∙ count

    -- a matrix that holds words
    pub held_polynomials : (matrix : RowMajorMatrix F) → HoldsWords f b matrix
        → HoldsAny (held_in f b matrix)
    held_polynomials matrix words = record {
      columns = committed f b matrix;
      degrees = λ i d l. degree i d (omega (arith, l, many));
      values = λ z. refl;
    }
      where
        many : length (committed f b matrix) ≡ matrix_width matrix
        many = length-tabulate (matrix_width matrix)
            (λ j. committed_column f b (column f.base matrix j))

        degree : (i : ℕ) (d : List F) → i < matrix_width matrix
            → length (slice_index_or (committed f b matrix) i d) ≡ length (rows matrix) / 2 ^ b
        degree i d l =
            ap length (get_or-tabulate (matrix_width matrix)
            (λ j. committed_column f b (column f.base matrix j)) i d l)
            ∙ committed_degree words.log_size (column f.base matrix i)
            (length-map (rows matrix) (λ row. slice_index_or row i f.base.zero) ∙ words.height)
            ∙ sym (ap (λ n. n / 2 ^ b) words.height ∙ pow-divided words.log_size b)

    -- matrices that hold words
    pub all_held : (matrices : List (RowMajorMatrix F)) → All (HoldsWords f b) matrices
        → All HoldsAny (map (held_in f b) matrices)
    all_held matrices h = All-map HoldsAny (held_in f b) matrices
        (λ i m l. held_polynomials (slice_index_or matrices i m) (h i m l))

  module _ (hidden : ℕ) where
    -- what is shown of polynomials, without the last columns
    pub shown_polynomials : (m : Held E) → HoldsAny m → HoldsAny (shown_of hidden m)
    shown_polynomials m h = record {
      columns = take (length h.columns - hidden) h.columns;
      degrees = λ i d l.
          let some : i < length h.columns - hidden = omega (arith, l, many) in
          ap length (get_or-take (length h.columns - hidden) h.columns i d some)
          ∙ h.degrees i d (omega (arith, some));
      values = λ z.
          ap (λ ys. take (length ys - hidden) ys) (h.values z)
          ∙ ap (λ n. take (n - hidden) (values_at f.base f.ext f.lift h.columns z))
          (length-map h.columns (λ c. val f.ext (map f.lift c) z))
          ∙ take-map (λ c. val f.ext (map f.lift c) z) (length h.columns - hidden) h.columns;
    }
      where
        many : length (take (length h.columns - hidden) h.columns) ≡ length h.columns - hidden
        many = length-take-le (length h.columns - hidden) h.columns (omega arith)

    pub all_shown : (ms : List (Held E)) → All HoldsAny ms
        → All HoldsAny (map (shown_of hidden) ms)
    all_shown ms h = All-map HoldsAny (shown_of hidden) ms
        (λ i m l. shown_polynomials (slice_index_or ms i m) (h i m l))
