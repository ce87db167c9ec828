-- What leads from data of the scheme to readings of it, and from one state of the scheme to the
-- next.
use Rattle.std.specs.Prelude.{◌≡◌, ◌≢◌, ◌<◌, ◌-◌, ℕ, zero, suc, List, [], ◌∷◌, map, length}
use Rattle.std.specs.Prelude.{true, false, take, drop, All, slice_index_or, refl}
use Rattle.std.specs.List.{AllZip}
use Rattle.std.proofs.Common.{sym, ap, subst, arith}
use Rattle.std.proofs.lemmas.List.{length-map, take-append-drop}
use Rattle.p3_matrix.specs.declared.dense.RowMajorMatrix.{RowMajorMatrix}
use Rattle.p3_matrix.specs.Matrix.{matrix_width}
use Rattle.p3_pcs.specs.Requests.{Held, HasColumns}
use Rattle.p3_stark_pcs.specs.Evaluations.{held_at, ShowsFirst}
use Rattle.p3_fri_relation.specs.Setting.{Fields}
use Rattle.p3_fri_openings.specs.Committed.{committed_values}
use Rattle.p3_fri_openings.proofs.Committed.{width_of_values}
use Rattle.p3_fri_openings.specs.Held.{held_in, held_of, HoldsWords}
use Rattle.p3_fri_hiding_openings.specs.EvaluationLaws.{is_matrix_of, words_at}
use Rattle.p3_fri_hiding_openings.specs.Evaluations.{HoldsWordsAt}
use Rattle.p3_fri_hiding_openings.specs.Halves.{shown_of}
use Rattle.p3_fri_hiding_openings.specs.declared.data.HidingFriPcsProverData.{HidingFriPcsProverData}
use Rattle.p3_fri_hiding_openings.specs.Data.{hidden_columns, shown_polynomials, IsOfScheme}
use Rattle.p3_fri_hiding_openings.specs.Data.{CanRead, CanReadWhole}
use Rattle.p3_fri_hiding.specs.Trace.{HasTrace}

-- a scheme that hides isn't one that doesn't
pub hides : {A : Type 0} → true ≡ false → A
hides plain = absurd (differ plain)
  where
    differ : true ≢ false
    differ e = cc

-- what has a trace has a column
pub traced_columns : {F E : Type 0} (f : Fields F E) (shift : F) (k : ℕ)
    (values : RowMajorMatrix F) (m : Held E) → HasTrace f shift k values m → HasColumns m
unfolding matrix_width
traced_columns f shift k values m h z none =
    absurd (omega (arith, values.has_columns, h.columns z, ap length none))

module _ {F E : Type 0} (f : Fields F E) (b hidden : ℕ) where
  -- what is shown of these matrices, without the columns that hide the others
  abbrev shown_matrices : List (RowMajorMatrix F) → List (Held E)
  shown_matrices ms = map (shown_of hidden) (map (held_in f b) ms)

  -- an index at which a column is shown names a matrix, and that one is wider than what hides
  shown_below : (ms : List (RowMajorMatrix F)) (index : ℕ)
      → HasColumns (held_at (shown_matrices ms) index) → index < length ms
  shown_below [] zero h = absurd (h f.ext.zero refl)
  shown_below [] (suc i) h = absurd (h f.ext.zero refl)
  shown_below (m ∷ ms) zero h = omega arith
  shown_below (m ∷ ms) (suc i) h = let r = shown_below ms i h in omega arith

  longer : (n w : ℕ) (xs : List E) → n ≡ w - hidden → take n xs ≢ [] → hidden < w
  longer zero w xs e some = absurd (some refl)
  longer (suc n) w xs e some = omega (arith, e)

  wider : (m : RowMajorMatrix F) → HasColumns (shown_of hidden (held_in f b m))
      → hidden < matrix_width m
  wider m h =
      let values = committed_values f b m f.ext.zero in
      subst (λ w. hidden < w) (width_of_values f b m f.ext.zero)
      (longer (length values - hidden) (length values) values refl (h f.ext.zero))

  shown_wider : (ms : List (RowMajorMatrix F)) (index : ℕ)
      → HasColumns (held_at (shown_matrices ms) index)
      → (m : RowMajorMatrix F) → hidden < matrix_width (slice_index_or ms index m)
  shown_wider [] zero h m = absurd (h f.ext.zero refl)
  shown_wider [] (suc i) h m = absurd (h f.ext.zero refl)
  shown_wider (x ∷ ms) zero h m = wider x h
  shown_wider (x ∷ ms) (suc i) h m = shown_wider ms i h m

-- what is shown are the first of all columns
first_shown : {E : Type 0} (hidden : ℕ) (ms : List (Held E))
    → AllZip ShowsFirst (map (shown_of hidden) ms) ms
first_shown hidden [] = tt
first_shown hidden (m ∷ ms) = (
  record {
    size = refl;
    others = λ z. drop (length (m.values_at z) - hidden) (m.values_at z);
    values = λ z. sym (take-append-drop (length (m.values_at z) - hidden) (m.values_at z));
  },
  first_shown hidden ms,
)

module _ {F E T : Type 0} (f : Fields F E) (committed_in : T → List (RowMajorMatrix F)) (b r : ℕ)
    (d : HidingFriPcsProverData T) where
  pub shown_first : AllZip ShowsFirst (shown_polynomials f committed_in b r d)
      (held_of f committed_in b d.inner)
  shown_first = first_shown (hidden_columns r d) (held_of f committed_in b d.inner)

  module _ (index : ℕ) where
    module _ (of_scheme : IsOfScheme f committed_in b r d) where
      -- data of the scheme is read where a column is shown, and whole where there is one
      pub whole_readable : HasColumns (held_at (held_of f committed_in b d.inner) index)
          → CanReadWhole f committed_in b r d index
      whole_readable columns =
          let is = is_matrix_of f b (committed_in d.inner) index of_scheme.cosets columns in
          record {
            codewords = of_scheme.codewords;
            blowup = of_scheme.blowup;
            below = is.below;
            coset = is.coset;
          }

      pub readable : HasColumns (held_at (shown_polynomials f committed_in b r d) index)
          → CanRead f committed_in b r d index
      readable columns =
          let ms = committed_in d.inner in
          let below = shown_below f b (hidden_columns r d) ms index columns in
          record {
            whole = record {
              codewords = of_scheme.codewords;
              blowup = of_scheme.blowup;
              below = below;
              coset = λ m. of_scheme.cosets index m below;
            };
            wider = shown_wider f b (hidden_columns r d) ms index columns;
          }

    pub shown_words_at : All (HoldsWords f b) (committed_in d.inner)
        → index < length (shown_polynomials f committed_in b r d)
        → HoldsWordsAt f b (committed_in d.inner) index
    shown_words_at words below =
        let held = held_of f committed_in b d.inner in
        words_at f b (committed_in d.inner) index words
        (subst (λ n. index < n) (length-map held (shown_of (hidden_columns r d))) below)
