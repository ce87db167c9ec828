-- The batch of honest openings is a word of low degree.
use Rattle.std.proofs.Common.{◌≡◌, ◌≢◌, ◌≤◌, ◌<◌, ◌==◌, cond, true, false, Bool, ℕ, zero, suc, pred}
use Rattle.std.proofs.Common.{◌+◌, ◌^◌, List, [], ◌∷◌, ◌++◌, length, map, get_or, All, refl, sym}
use Rattle.std.proofs.Common.{ap, ap₂, ◌∙◌, subst, arith}
use Rattle.std.proofs.Math.ListN.{get_or-map}
use Rattle.std.proofs.lemmas.List.Elements.{All-head, All-tail}
use Rattle.std.proofs.lemmas.Bool.{eqb-true}
use Rattle.std.specs.List.{flat_map}
use Rattle.algebra.specs.Field.{IsField, IsHomomorphism}
use Rattle.algebra.specs.Polynomial.{val}
use Rattle.algebra.specs.TwoAdic.{AreRoots}
use Rattle.algebra.specs.Cosets.{coset_pt}
use Rattle.algebra.specs.Words.{IsCosetWord}
use Rattle.algebra.specs.Quotients.{quotients, values_at, row_at, opened_quotients, IsOpenedOff}
use Rattle.algebra.specs.Quotients.{Opened as OpenedColumns}
use Rattle.algebra.proofs.Lists.{Each, All_from_each, each_from_All, tabulate-equal}
use Rattle.algebra.proofs.Lists.{get_or-tabulate, map-tabulate, tabulate-get_or, length-tabulate}
use Rattle.algebra.proofs.Batches.{quotient_word_below}
use Rattle.algebra.proofs.CosetWords.{coset_word-degree}
use Rattle.p3_matrix.specs.declared.dense.RowMajorMatrix.{RowMajorMatrix}
use Rattle.p3_matrix.specs.Matrix.{rows, matrix_width}
use Rattle.p3_dft.specs.Evaluations.{column}
use Rattle.p3_pcs.specs.Claims.{PointClaim}
use Rattle.p3_fri_relation.specs.Setting.{Fields}
use Rattle.p3_fri_openings.specs.Rounds.{log_height}
use Rattle.p3_fri_openings.specs.Refusals.{IsOff}
use Rattle.p3_fri_openings.specs.Committed.{committed_column, committed, committed_values}
use Rattle.p3_fri_openings.proofs.Committed.{committed_is}
use Rattle.p3_fri_batch.specs.Words.{Opened, IsOpenedWord, terms_at, point_of_entry, opened_terms}
use Rattle.p3_fri_batch.specs.Words.{batch_word}
use Rattle.p3_matrix.proofs.Widths.{row_width}

module _ {F E : Type 0} (f : Fields F E) (L : IsField f.base)
    (W : AreRoots f.base f.two_adicity f.root)
    (nonzero : f.shift ≢ f.base.zero) (b k : ℕ) (within : k + b ≤ f.two_adicity) where
  -- a matrix by the polynomials of its columns
  columns_of : Opened F E → OpenedColumns F E
  columns_of m = record { columns = committed f b m.matrix; points = map (λ z. z.point) m.claims }

  -- an entry of a column is its polynomial's value
  entry_is : (m : Opened F E) → IsOpenedWord f b (k + b) k m → (j i : ℕ) → j < matrix_width m.matrix
      → i < 2 ^ (k + b)
      → get_or (get_or (rows m.matrix) i []) j f.base.zero
      ≡ val f.base (committed_column f b (column f.base m.matrix j))
      (coset_pt f.base f.root f.shift i (k + b))
  entry_is m o j i l below =
      let y = o.columns j l in
      sym (get_or-map (λ entries. get_or entries j f.base.zero) (rows m.matrix) i [])
      ∙ ap (λ ys. get_or ys i f.base.zero) y.values
      ∙ get_or-tabulate (2 ^ (k + b))
      (λ i. val f.base y.polynomial (coset_pt f.base f.root f.shift i (k + b))) i f.base.zero below
      ∙ ap (λ c. val f.base c (coset_pt f.base f.root f.shift i (k + b)))
      (sym (committed_is f L W nonzero b k (column f.base m.matrix j) within y))

  -- and so a row is that of the polynomials' values
  row_is : (m : Opened F E) → IsOpenedWord f b (k + b) k m → (i : ℕ) → i < 2 ^ (k + b)
      → map f.lift (get_or (rows m.matrix) i [])
      ≡ row_at f.base f.ext f.lift (committed f b m.matrix)
      (coset_pt f.base f.root f.shift i (k + b))
  row_is m o i below =
      let x = coset_pt f.base f.root f.shift i (k + b) in
      let wide = row_width m.matrix i (omega (arith, below, o.height)) in
      ap (λ row. map f.lift row) (sym
      (tabulate-get_or (matrix_width m.matrix) (get_or (rows m.matrix) i []) f.base.zero wide)
      ∙ tabulate-equal (matrix_width m.matrix)
      (λ j. get_or (get_or (rows m.matrix) i []) j f.base.zero)
      (λ j. val f.base (committed_column f b (column f.base m.matrix j)) x)
      (λ j l. entry_is m o j i l below))
      ∙ map-tabulate f.lift (matrix_width m.matrix)
      (λ j. val f.base (committed_column f b (column f.base m.matrix j)) x)
      ∙ sym (map-tabulate (λ c. f.lift (val f.base c x)) (matrix_width m.matrix)
      (λ j. committed_column f b (column f.base m.matrix j)))

  claims_are : (matrix : RowMajorMatrix F) (x : E) (row : List E) (claims : List (PointClaim E))
      → All (λ z. z.values ≡ committed_values f b matrix z.point) claims
      → terms_at f.ext x row claims
      ≡ flat_map (λ z. quotients f.ext z x (values_at f.base f.ext f.lift (committed f b matrix) z)
      row) (map (λ z. z.point) claims)
  claims_are matrix x row [] h = refl
  claims_are matrix x row (z ∷ claims) h =
      ap₂ (λ ts us. ts ++ us)
      (ap (λ ys. quotients f.ext z.point x ys row)
      (All-head (λ z. z.values ≡ committed_values f b matrix z.point) z claims h))
      (claims_are matrix x row claims
      (All-tail (λ z. z.values ≡ committed_values f b matrix z.point) z claims h))

  terms_are : (m : Opened F E) → IsOpenedWord f b (k + b) k m → (i : ℕ) → i < 2 ^ (k + b)
      → terms_at f.ext (point_of_entry f (k + b) i) (map f.lift (get_or (rows m.matrix) i [])) m.claims
      ≡ opened_quotients f.base f.ext f.lift (coset_pt f.base f.root f.shift i (k + b))
      (columns_of m)
  unfolding columns_of
  terms_are m o i below =
      ap (λ row. terms_at f.ext (point_of_entry f (k + b) i) row m.claims) (row_is m o i below)
      ∙ claims_are m.matrix (point_of_entry f (k + b) i)
      (row_at f.base f.ext f.lift (committed f b m.matrix)
      (coset_pt f.base f.root f.shift i (k + b))) m.claims o.honest

  -- the matrices of the log height
  taken : List (Opened F E) → List (OpenedColumns F E)
  taken [] = []
  taken (m ∷ ms) = cond (log_height m.matrix == (k + b)) (columns_of m ∷ taken ms) (taken ms)

  all_terms : (ms : List (Opened F E))
      → Each (λ m. log_height m.matrix ≡ k + b → IsOpenedWord f b (k + b) k m) ms
      → (i : ℕ) → i < 2 ^ (k + b)
      → flat_map (opened_terms f (k + b) i) ms
      ≡ flat_map (opened_quotients f.base f.ext f.lift (coset_pt f.base f.root f.shift i (k + b)))
      (taken ms)
  unfolding taken
  all_terms [] h i l = refl
  all_terms (m ∷ ms) h i l = more (all_terms ms h.1 i l) (log_height m.matrix == (k + b)) refl
    where
      more : flat_map (opened_terms f (k + b) i) ms
          ≡ flat_map (opened_quotients f.base f.ext f.lift
          (coset_pt f.base f.root f.shift i (k + b))) (taken ms)
          → (t : Bool) → (log_height m.matrix == (k + b)) ≡ t
          → cond t (terms_at f.ext (point_of_entry f (k + b) i)
          (map f.lift (get_or (rows m.matrix) i [])) m.claims) []
          ++ flat_map (opened_terms f (k + b) i) ms
          ≡ flat_map (opened_quotients f.base f.ext f.lift
          (coset_pt f.base f.root f.shift i (k + b)))
          (cond t (columns_of m ∷ taken ms) (taken ms))
      more rest true e =
          ap₂ (λ ts us. ts ++ us) (terms_are m (h.0 (eqb-true (log_height m.matrix) (k + b) e)) i l)
          rest
      more rest false e = rest

  degrees_are : (m : Opened F E) → IsOpenedWord f b (k + b) k m
      → All (λ c. length c ≡ 2 ^ k) (committed f b m.matrix)
  degrees_are m o j d l =
      let below : j < matrix_width m.matrix =
      omega (
        arith,
        l,
        length-tabulate (matrix_width m.matrix)
            (λ j. committed_column f b (column f.base m.matrix j)),
      ) in
      let y = o.columns j below in
      ap length (get_or-tabulate (matrix_width m.matrix)
      (λ j. committed_column f b (column f.base m.matrix j)) j d below
      ∙ committed_is f L W nonzero b k (column f.base m.matrix j) within y)
      ∙ y.degree

  offs : (claims : List (PointClaim E)) → Each (λ z. IsOff f (k + b) z.point) claims
      → Each (IsOff f (k + b)) (map (λ z. z.point) claims)
  offs [] h = tt
  offs (z ∷ claims) h = (h.0, offs claims h.1)

  all_off : (ms : List (Opened F E))
      → Each (λ m. log_height m.matrix ≡ k + b → IsOpenedWord f b (k + b) k m) ms
      → Each (IsOpenedOff f.base f.lift f.root f.shift (k + b) (2 ^ k)) (taken ms)
  unfolding taken columns_of
  all_off [] h = tt
  all_off (m ∷ ms) h = more (all_off ms h.1) (log_height m.matrix == (k + b)) refl
    where
      more : Each (IsOpenedOff f.base f.lift f.root f.shift (k + b) (2 ^ k)) (taken ms) → (t : Bool)
          → (log_height m.matrix == (k + b)) ≡ t
          → Each (IsOpenedOff f.base f.lift f.root f.shift (k + b) (2 ^ k))
          (cond t (columns_of m ∷ taken ms) (taken ms))
      more rest true e =
          let o = h.0 (eqb-true (log_height m.matrix) (k + b) e) in (
            record {
              degrees = degrees_are m o;
              off = All_from_each (IsOff f (k + b)) (map (λ z. z.point) m.claims)
                  (offs m.claims (each_from_All (λ z. IsOff f (k + b) z.point) m.claims o.off));
            },
            rest,
          )
      more rest false e = rest

  -- the batch of the log height `k + b` is a word of degree below `2^k - 1`
  pub batch_below : (M : IsField f.ext) (H : IsHomomorphism f.base f.ext f.lift) (alpha : E)
      (ms : List (Opened F E))
      → All (λ m. log_height m.matrix ≡ k + b → IsOpenedWord f b (k + b) k m) ms
      → IsCosetWord f.ext (λ j. f.lift (f.root j)) (f.lift f.shift) (k + b) (pred (2 ^ k))
      (batch_word f alpha (k + b) ms)
  batch_below M H alpha ms h =
      let each = each_from_All (λ m. log_height m.matrix ≡ k + b → IsOpenedWord f b (k + b) k m) ms
      h in
      subst (λ ys. IsCosetWord f.ext (λ j. f.lift (f.root j)) (f.lift f.shift) (k + b)
      (pred (2 ^ k)) ys)
      (sym (tabulate-equal (2 ^ (k + b))
      (λ i. val f.ext (flat_map (opened_terms f (k + b) i) ms) alpha)
      (λ i. val f.ext (flat_map (opened_quotients f.base f.ext f.lift
      (coset_pt f.base f.root f.shift i (k + b))) (taken ms)) alpha)
      (λ i l. ap (λ ts. val f.ext ts alpha) (all_terms ms each i l))))
      (quotient_word_below f.base f.ext f.lift L M H f.root f.shift (k + b) (2 ^ k) alpha (taken ms)
      (all_off ms each))

  -- and so of one below `2^k`
  pub batch_low : (M : IsField f.ext) (H : IsHomomorphism f.base f.ext f.lift) (alpha : E)
      (ms : List (Opened F E))
      → All (λ m. log_height m.matrix ≡ k + b → IsOpenedWord f b (k + b) k m) ms
      → IsCosetWord f.ext (λ j. f.lift (f.root j)) (f.lift f.shift) (k + b) (2 ^ k)
      (batch_word f alpha (k + b) ms)
  batch_low M H alpha ms h =
      coset_word-degree f.ext M.ring (λ j. f.lift (f.root j)) (f.lift f.shift) (k + b)
      (pred (2 ^ k)) (2 ^ k)
      (batch_word f alpha (k + b) ms) (pred_le (2 ^ k)) (batch_below M H alpha ms h)
    where
      pred_le : (n : ℕ) → pred n ≤ n
      pred_le zero = omega arith
      pred_le (suc n) = omega arith
