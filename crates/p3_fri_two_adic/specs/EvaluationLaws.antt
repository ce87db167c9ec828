-- What leads from committed data to readings of it, in the plain scheme.
use Rattle.std.specs.Prelude.{◌≡◌, ◌≢◌, ◌<◌, ◌/◌, ◌+◌, ◌^◌, ℕ, zero, suc, List, [], ◌∷◌, ◌++◌}
use Rattle.std.specs.Prelude.{map, length, All, slice_index_or, refl}
use Rattle.std.specs.List.{AllZip}
use Rattle.std.proofs.Common.{sym, ◌∙◌, subst, arith}
use Rattle.std.proofs.lemmas.List.{length-map, append-nil}
use Rattle.algebra.specs.Polynomial.{tabulate}
use Rattle.p3_matrix.specs.declared.dense.RowMajorMatrix.{RowMajorMatrix}
use Rattle.p3_matrix.specs.Matrix.{matrix_width}
use Rattle.p3_pcs.specs.Requests.{Held, HasColumns}
use Rattle.p3_stark_pcs.specs.Evaluations.{held_at, ShowsFirst}
use Rattle.p3_fri_relation.specs.Setting.{Fields}
use Rattle.p3_fri_openings.specs.Rounds.{HasCoset}
use Rattle.p3_fri_openings.specs.Held.{held_in, HoldsWords}
use Rattle.p3_fri_two_adic.specs.Held.{Extends}
use Rattle.p3_fri_two_adic.specs.Evaluations.{IsMatrixOf, HoldsWordsAt}

-- a list that is made of some entries isn't empty
some_entry : {A B : Type 0} (n : ℕ) (f : ℕ → A) (g : A → B) → 0 < n → map g (tabulate n f) ≢ []
some_entry zero f g some e = absurd (omega (arith, some))
some_entry (suc n) f g some e = cc

module _ {F E : Type 0} (f : Fields F E) where
  -- a matrix has a column
  pub extended_columns : (shift : F) (k : ℕ) (values : RowMajorMatrix F) (m : Held E)
      → Extends f shift k values m → HasColumns m
  unfolding matrix_width
  extended_columns shift k values m h z e =
      some_entry (matrix_width values) _ _ values.has_columns (sym (h.polynomials.values z) ∙ e)

  module _ (b : ℕ) where
    -- an index at which a column is held names a matrix
    named : (ms : List (RowMajorMatrix F)) (index : ℕ)
        → HasColumns (held_at (map (held_in f b) ms) index) → index < length ms
    named [] zero h = absurd (h f.ext.zero refl)
    named [] (suc i) h = absurd (h f.ext.zero refl)
    named (m ∷ ms) zero h = omega arith
    named (m ∷ ms) (suc i) h = let r = named ms i h in omega arith

    pub is_matrix_of : (ms : List (RowMajorMatrix F)) (index : ℕ)
        → All (HasCoset f.two_adicity) ms → HasColumns (held_at (map (held_in f b) ms) index)
        → IsMatrixOf f.two_adicity ms index
    is_matrix_of ms index cosets h =
        let below = named ms index h in
        record { below = below; coset = λ m. cosets index m below }

    pub words_at : (ms : List (RowMajorMatrix F)) (index : ℕ) → All (HoldsWords f b) ms
        → index < length (map (held_in f b) ms) → HoldsWordsAt f b ms index
    words_at ms index words below =
        λ m. words index m (subst (λ n. index < n) (length-map ms (held_in f b)) below)

-- all columns are shown
pub all_shown : {E : Type 0} (ms : List (Held E)) → AllZip ShowsFirst ms ms
all_shown [] = tt
all_shown (m ∷ ms) = (
  record {
    size = refl;
    others = λ z. [];
    values = λ z. sym (append-nil (m.values_at z));
  },
  all_shown ms,
)
