-- A word and a power after one more matrix.
use Rattle.std.proofs.Common.{◌≡◌, ◌≢◌, ◌<◌, cond, ℕ, ◌+◌, ◌*◌, ◌^◌, List, [], ◌∷◌, ◌++◌, length}
use Rattle.std.proofs.Common.{map, get_or, sym, ap, ◌∙◌, length-append, arith}
use Rattle.std.proofs.lemmas.Bool.{eq-eqb, ne_eqb}
use Rattle.std.proofs.lemmas.Grind.{flat_map-append}
use Rattle.std.proofs.lemmas.List.{append-nil, length-map}
use Rattle.std.specs.List.{flat_map}
use Rattle.algebra.specs.Field.{IsField, pow}
use Rattle.algebra.specs.Polynomial.{val, tabulate}
use Rattle.algebra.proofs.Powers.{pow-zero}
use Rattle.algebra.proofs.Values.{val-nil}
use Rattle.algebra.proofs.Lists.{Each, tabulate-equal, tabulate-get_or, get_or-tabulate}
use Rattle.algebra.proofs.Lists.{length-tabulate}
use Rattle.p3_matrix.specs.Matrix.{rows, matrix_width}
use Rattle.p3_fri_relation.specs.Setting.{Fields}
use Rattle.p3_fri_openings.specs.Log2.{log2}
use Rattle.p3_fri_openings.specs.Rounds.{log_height}
use Rattle.p3_fri_openings.proofs.Log2.{log2-pow}
use Rattle.p3_fri_batch.specs.Words.{Opened, IsSummed, point_of_entry, terms_at, opened_terms}
use Rattle.p3_fri_batch.proofs.Terms.{terms_length}
use Rattle.p3_matrix.proofs.Widths.{row_width}

module _ {F E : Type 0} (f : Fields F E) (L : IsField f.ext) (alpha : E) (h : ℕ) where
  -- without matrices the word is zero
  pub summed_none : (word : List E) (step : E) → word ≡ tabulate (2 ^ h) (λ i. f.ext.zero) → step
      ≡ f.ext.one
      → IsSummed f alpha h [] word step
  summed_none word step w s = record {
    word_is = w ∙ tabulate-equal (2 ^ h) (λ i. f.ext.zero) (λ i. val f.ext [] alpha)
        (λ i _. sym (val-nil f.ext L.ring alpha));
    step_is = λ i l. s ∙ sym (pow-zero f.ext alpha);
  }

  one_more : (ms : List (Opened F E)) (m : Opened F E) (i : ℕ)
      → flat_map (opened_terms f h i) (ms ++ m ∷ [])
      ≡ flat_map (opened_terms f h i) ms ++ opened_terms f h i m
  one_more ms m i =
      flat_map-append (opened_terms f h i) ms (m ∷ [])
      ∙ ap (λ ts. flat_map (opened_terms f h i) ms ++ ts) (append-nil (opened_terms f h i m))

  -- a matrix of another height adds nothing
  pub summed_other : (ms : List (Opened F E)) (m : Opened F E) (word : List E) (step : E)
      → log_height m.matrix ≢ h → IsSummed f alpha h ms word step
      → IsSummed f alpha h (ms ++ m ∷ []) word step
  summed_other ms m word step differ so_far =
      let same : (i : ℕ) → flat_map (opened_terms f h i) (ms ++ m ∷ [])
      ≡ flat_map (opened_terms f h i) ms =
      λ i. one_more ms m i
      ∙ ap (λ t. flat_map (opened_terms f h i) ms ++ cond t
      (terms_at f.ext (point_of_entry f h i) (map f.lift (get_or (rows m.matrix) i [])) m.claims) [])
      (ne_eqb (log_height m.matrix) h differ)
      ∙ append-nil (flat_map (opened_terms f h i) ms) in
      record {
        word_is = so_far.word_is ∙ tabulate-equal (2 ^ h)
            (λ i. val f.ext (flat_map (opened_terms f h i) ms) alpha)
            (λ i. val f.ext (flat_map (opened_terms f h i) (ms ++ m ∷ [])) alpha)
            (λ i _. ap (λ ts. val f.ext ts alpha) (sym (same i)));
        step_is = λ i l. so_far.step_is i l ∙ ap (λ ts. pow f.ext alpha (length ts)) (sym (same i));
      }

  module _ (m : Opened F E) (taller : log_height m.matrix ≡ h)
      (size : length (rows m.matrix) ≡ 2 ^ h)
      (wide : Each (λ c. length c.values ≡ matrix_width m.matrix) m.claims) where
    added : (i : ℕ) → List E
    added i = terms_at f.ext (point_of_entry f h i) (map f.lift (get_or (rows m.matrix) i [])) m.claims

    joined_terms : (ms : List (Opened F E)) (i : ℕ)
        → flat_map (opened_terms f h i) (ms ++ m ∷ []) ≡ flat_map (opened_terms f h i) ms ++ added i
    unfolding added
    joined_terms ms i =
        one_more ms m i
        ∙ ap (λ t. flat_map (opened_terms f h i) ms ++ cond t
        (terms_at f.ext (point_of_entry f h i) (map f.lift (get_or (rows m.matrix) i [])) m.claims) [])
        (eq-eqb (log_height m.matrix) h taller)

    added_length : (i : ℕ) → i < 2 ^ h → length (added i) ≡ length m.claims * matrix_width m.matrix
    unfolding added
    added_length i l =
        terms_length f.ext L alpha (point_of_entry f h i) (map f.lift (get_or (rows m.matrix) i []))
        (matrix_width m.matrix) m.claims wide
        (length-map (get_or (rows m.matrix) i []) f.lift
        ∙ row_width m.matrix i (omega (arith, l, size)))

    -- one of this height adds its quotients, by the powers that follow
    pub summed_more : (ms : List (Opened F E)) (word new : List E) (step after : E)
        → length word ≡ 2 ^ h → length new ≡ 2 ^ h
        → ((i : ℕ) (d : E) (ts : List E) → i < length word → step ≡ pow f.ext alpha (length ts)
        → get_or word i d ≡ val f.ext ts alpha
        → get_or new i d ≡ val f.ext (ts ++ terms_at f.ext (point_of_entry f (log2 (length word)) i)
        (map f.lift (get_or (rows m.matrix) i [])) m.claims) alpha)
        → ((n : ℕ) → step ≡ pow f.ext alpha n
        → after ≡ pow f.ext alpha (n + length m.claims * matrix_width m.matrix))
        → IsSummed f alpha h ms word step → IsSummed f alpha h (ms ++ m ∷ []) new after
    unfolding added
    summed_more ms word new step after long still sums goes_on so_far =
        let read : log2 (length word) ≡ h = ap log2 long ∙ log2-pow h in
        record {
          word_is = sym (tabulate-get_or (2 ^ h) new f.ext.zero still)
              ∙ tabulate-equal (2 ^ h) (λ i. get_or new i f.ext.zero)
              (λ i. val f.ext (flat_map (opened_terms f h i) (ms ++ m ∷ [])) alpha)
              (λ i l. sums i f.ext.zero (flat_map (opened_terms f h i) ms) (omega (arith, l, long))
              (so_far.step_is i l)
              (ap (λ ys. get_or ys i f.ext.zero) so_far.word_is
              ∙ get_or-tabulate (2 ^ h) (λ i. val f.ext (flat_map (opened_terms f h i) ms) alpha) i
              f.ext.zero l)
              ∙ ap (λ n. val f.ext (flat_map (opened_terms f h i) ms ++ terms_at f.ext
              (point_of_entry f n i)
              (map f.lift (get_or (rows m.matrix) i [])) m.claims) alpha) read
              ∙ ap (λ ts. val f.ext ts alpha) (sym (joined_terms ms i)));
          step_is = λ i l. goes_on (length (flat_map (opened_terms f h i) ms)) (so_far.step_is i l)
              ∙ ap (λ n. pow f.ext alpha n)
              (ap (λ n. length (flat_map (opened_terms f h i) ms) + n) (sym (added_length i l))
              ∙ sym (length-append (flat_map (opened_terms f h i) ms) (added i))
              ∙ ap length (sym (joined_terms ms i)));
        }

  -- the word has the length of its log height
  pub summed_length : (ms : List (Opened F E)) (word : List E) (step : E)
      → IsSummed f alpha h ms word step
      → length word ≡ 2 ^ h
  summed_length ms word step so_far =
      ap length so_far.word_is
      ∙ length-tabulate (2 ^ h) (λ i. val f.ext (flat_map (opened_terms f h i) ms) alpha)
