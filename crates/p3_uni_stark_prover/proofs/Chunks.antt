-- The polynomials of a quotient's chunks, and what they recombine to.
use Rattle.std.proofs.Common.{◌≡◌, ℕ, zero, suc, ◌+◌, ◌^◌, ◌<◌, List, [], ◌∷◌, length, map}
use Rattle.std.proofs.Common.{get_or, All, refl, sym, ap, ap₂, subst, ◌∙◌, arith}
use Rattle.std.proofs.lemmas.List.{length-map, get_or-map}
use Rattle.algebra.specs.Polynomial.{val, tabulate}
use Rattle.algebra.specs.Quotients.{values_at}
use Rattle.algebra.proofs.Lists.{Each, length-tabulate, get_or-tabulate}
use Rattle.p3_field_core.specs.Coset.{coset_point}
use Rattle.p3_matrix.specs.declared.dense.RowMajorMatrix.{RowMajorMatrix}
use Rattle.p3_matrix.specs.Matrix.{rows, matrix_width}
use Rattle.p3_pcs.specs.Requests.{Held}
use Rattle.p3_uni_stark_completeness.specs.Chunks.{AreChunkColumns}
use Rattle.p3_uni_stark_quotient.specs.Chunked.{chunk_rows}
use Rattle.p3_uni_stark_verifier.specs.Setting.{StarkFields}
use Rattle.p3_uni_stark_pcs.specs.Laws.{HoldsRowsOn}
use Rattle.p3_uni_stark_pcs.specs.Rooms.{AreChunksOf}

-- at each place of a list
each_from : {X : Type 0} (P : X → Type 0) (xs : List X)
    → ((i : ℕ) (d : X) → i < length xs → P (get_or xs i d)) → Each P xs
each_from P [] h = tt
each_from P (x ∷ xs) h =
    (h 0 x (omega arith), each_from P xs (λ i d l. h (suc i) d (omega (arith, l))))

module _ {V E Dom : Type 0} (fields : StarkFields V E) (shift : Dom → V) (log_size : Dom → ℕ)
    (k d : ℕ) (es : List (Dom × RowMajorMatrix V)) (pairs : AreChunksOf fields shift log_size k d es)
  where
    pub counted : length es ≡ 2 ^ d
    counted = sym (length-map es (λ e. shift e.0)) ∙ ap length pairs.shifts
        ∙ length-tabulate (2 ^ d) (coset_point fields.base (fields.root (k + d)) fields.generator)

    -- each has as many rows as its domain has points
    pub sized : Each (λ e. length (rows e.1) ≡ 2 ^ log_size e.0) es
    sized = each_from (λ e. length (rows e.1) ≡ 2 ^ log_size e.0) es
        (λ i e l. pairs.heights i e l ∙ ap (λ n. 2 ^ n) (sym (pairs.sizes i e l)))

module _ {V E Dom : Type 0} (fields : StarkFields V E) (shift : Dom → V) (log_size : Dom → ℕ)
    (chunk_polynomials : Dom × RowMajorMatrix V → Held E) where
  abbrev Fits : Dom × RowMajorMatrix V → Type 0
  Fits e = HoldsRowsOn fields (shift e.0) (log_size e.0) e.1 (chunk_polynomials e)

  -- the columns' polynomials of each chunk
  pub columns_each : (es : List (Dom × RowMajorMatrix V)) → Each Fits es → List (List (List V))
  columns_each [] h = []
  columns_each (e ∷ es) h = HoldsRowsOn.columns h.0 ∷ columns_each es h.1

  columns_many : (es : List (Dom × RowMajorMatrix V)) (h : Each Fits es)
      → length (columns_each es h) ≡ length es
  unfolding columns_each
  columns_many [] h = refl
  columns_many (e ∷ es) h = ap suc (columns_many es h.1)

  pub values_each : (z : E) (es : List (Dom × RowMajorMatrix V)) (h : Each Fits es)
      → map (λ chunk. values_at fields.base fields.ext fields.lift chunk z) (columns_each es h)
      ≡ map (λ e. (chunk_polynomials e).values_at z) es
  unfolding columns_each
  values_each z [] h = refl
  values_each z (e ∷ es) h =
      ap₂ (λ v vs. v ∷ vs) (sym (HoldsRowsOn.values h.0 z)) (values_each z es h.1)

  -- what is known of the columns of one chunk
  record IsOf (cs : List (List V)) (e : Dom × RowMajorMatrix V) : Type 0 where
    pub count : length cs ≡ matrix_width e.1
    pub degrees : All (λ c. length c ≡ 2 ^ log_size e.0) cs
    pub rows_there : (i : ℕ) → i < 2 ^ log_size e.0 → map (λ c. val fields.base c
        (coset_point fields.base (fields.root (log_size e.0)) (shift e.0) i)) cs
        ≡ get_or (rows e.1) i []

  column_at : (es : List (Dom × RowMajorMatrix V)) (h : Each Fits es) (i : ℕ)
      (d : Dom × RowMajorMatrix V) → i < length es
      → IsOf (get_or (columns_each es h) i []) (get_or es i d)
  unfolding columns_each
  column_at [] h i d l = absurd (omega (arith, l))
  column_at (e ∷ es) h zero d l = record {
    count = HoldsRowsOn.count h.0;
    degrees = HoldsRowsOn.degrees h.0;
    rows_there = HoldsRowsOn.rows_there h.0;
  }
  column_at (e ∷ es) h (suc i) d l = column_at es h.1 i d (omega (arith, l))

  module _ (k d : ℕ) (es : List (Dom × RowMajorMatrix V))
      (pairs : AreChunksOf fields shift log_size k d es) where
    many : length es ≡ 2 ^ d
    many = counted fields shift log_size k d es pairs

    shift_at : (i : ℕ) (e : Dom × RowMajorMatrix V) → i < 2 ^ d → shift (get_or es i e).0
        ≡ coset_point fields.base (fields.root (k + d)) fields.generator i
    shift_at i e l =
        sym (get_or-map (λ e. shift e.0) es i e fields.base.zero (omega (arith, l, many)))
        ∙ ap (λ ss. get_or ss i fields.base.zero) pairs.shifts
        ∙ get_or-tabulate (2 ^ d)
        (coset_point fields.base (fields.root (k + d)) fields.generator) i fields.base.zero l

    module _ (h : Each Fits es) (coefficients : E → List V) (values : List E)
        (rows_are : map (λ e. rows e.1) es ≡ tabulate (2 ^ d)
        (chunk_rows coefficients fields.ext.zero k d values)) where
      rows_at : (i : ℕ) (e : Dom × RowMajorMatrix V) → i < 2 ^ d
          → rows (get_or es i e).1 ≡ chunk_rows coefficients fields.ext.zero k d values i
      rows_at i e l =
          sym (get_or-map (λ e. rows e.1) es i e [] (omega (arith, l, many)))
          ∙ ap (λ rs. get_or rs i []) rows_are
          ∙ get_or-tabulate (2 ^ d) (chunk_rows coefficients fields.ext.zero k d values) i [] l

      pub are_chunk_columns : (e : Dom × RowMajorMatrix V)
          → AreChunkColumns fields.base fields.ext.zero fields.root fields.generator k d
          fields.dimension coefficients values (columns_each es h)
      are_chunk_columns e = record {
        count = columns_many es h ∙ many;
        widths = λ i l.
            let a = column_at es h i e (omega (arith, l, many)) in
            IsOf.count a ∙ pairs.widths i e (omega (arith, l, many));
        degrees = λ i l.
            let a = column_at es h i e (omega (arith, l, many)) in
            subst (λ n. All (λ c. length c ≡ 2 ^ n) (get_or (columns_each es h) i []))
            (pairs.sizes i e (omega (arith, l, many))) (IsOf.degrees a);
        rows_there = λ i j li lj.
            let a = column_at es h i e (omega (arith, li, many)) in
            let size = pairs.sizes i e (omega (arith, li, many)) in
            let cs = get_or (columns_each es h) i [] in
            sym (ap₂ (λ n s. map (λ c. val fields.base c
            (coset_point fields.base (fields.root n) s j)) cs) size (shift_at i e li))
            ∙ IsOf.rows_there a j (subst (λ n. j < 2 ^ n) (sym size) lj)
            ∙ ap (λ rs. get_or rs j []) (rows_at i e li);
      }
