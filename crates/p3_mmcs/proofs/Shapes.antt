-- Rows and their widths, by place.
use Rattle.std.proofs.Common.{◌≡◌, ◌≢◌, ℕ, zero, suc, ◌^◌, ◌<◌, List, [], ◌∷◌, length, get_or, refl, ap}
use Rattle.std.proofs.Common.{arith, sym, ◌∙◌, inl, inr}
use Rattle.p3_matrix.specs.declared.Dimensions.{Dimensions}
use Rattle.p3_field_core.proofs.IndexPowers.{exponents_agree}
use Rattle.p3_mmcs.specs.Batch.{max_height, HasRows, HasShape, SomeWidthDiffers}
use Rattle.p3_mmcs.specs.Tree.{OpensAt}
use Rattle.p3_mmcs.specs.Shape.{IsShaped}

module _ {T : Type 0} where
  -- a set of rows has as many as there are matrices
  pub rows_count : (dims : List Dimensions) (set : List (List T)) → HasRows dims set
      → length set ≡ length dims
  rows_count [] [] h = refl
  rows_count [] (row ∷ set) h = absurd h
  rows_count (d ∷ dims) [] h = absurd h
  rows_count (d ∷ dims) (row ∷ set) h = ap suc (rows_count dims set h.1)

  pub widths_all : (dims : List Dimensions) (set : List (List T)) → length set ≡ length dims
      → ((k : ℕ) (d : Dimensions) → k < length dims
      → length (get_or set k []) ≡ (get_or dims k d).width) → HasRows dims set
  widths_all [] [] e h = tt
  widths_all [] (row ∷ set) e h = absurd (omega (arith, e))
  widths_all (d ∷ dims) [] e h = absurd (omega (arith, e))
  widths_all (d ∷ dims) (row ∷ set) e h = (
    h zero d (omega arith),
    widths_all dims set (omega (arith, e)) (λ k f l.
        h (suc k) f (omega (arith, l))),
  )

  pub width_some : (dims : List Dimensions) (set : List (List T)) (k : ℕ) (d : Dimensions)
      → k < length dims → k < length set
      → length (get_or set k []) ≢ (get_or dims k d).width → SomeWidthDiffers dims set
  width_some [] set k d l m n = absurd (omega (arith, l))
  width_some (e ∷ dims) [] k d l m n = absurd (omega (arith, m))
  width_some (e ∷ dims) (row ∷ set) zero d l m n = inl n
  width_some (e ∷ dims) (row ∷ set) (suc k) d l m n =
      inr (width_some dims set k d (omega (arith, l)) (omega (arith, m)) n)

  pub widths_differ : (dims : List Dimensions) (set : List (List T)) → HasRows dims set
      → SomeWidthDiffers dims set → ⊥
  widths_differ [] set h s = s
  widths_differ (d ∷ dims) [] h s = s
  widths_differ (d ∷ dims) (row ∷ set) h s =
      elim s [ inl n ↦ n h.0 | inr other ↦ widths_differ dims set h.1 other ]

  -- what belongs to a commitment has the right shape
  pub opening_shaped : (bytes : T → List ℕ) (commitment : List ℕ) (dims : List Dimensions)
      (log_height index : ℕ) (set : List (List T)) (path : List (List ℕ))
      → 2 ^ log_height ≡ max_height dims → OpensAt bytes commitment dims index set path
      → IsShaped dims log_height set path
  opening_shaped bytes commitment dims log_height index set path greatest opens = record {
    widths = opens.widths;
    levels = exponents_agree (length path) log_height (opens.levels ∙ sym greatest);
  }

  -- an opening has as many sets of rows as there are indices
  pub sets_count : (dims : List Dimensions) (indices : List ℕ) (sets : List (List (List T)))
      → HasShape dims indices sets → length sets ≡ length indices
  sets_count dims [] [] h = refl
  sets_count dims [] (set ∷ sets) h = absurd h
  sets_count dims (index ∷ indices) [] h = absurd h
  sets_count dims (index ∷ indices) (set ∷ sets) h = ap suc (sets_count dims indices sets h.1)

  -- and each has the rows of the dimensions
  pub set_at : (dims : List Dimensions) (indices : List ℕ) (sets : List (List (List T)))
      → HasShape dims indices sets → (k : ℕ) → k < length sets → HasRows dims (get_or sets k [])
  set_at dims [] [] h k l = absurd (omega (arith, l))
  set_at dims [] (set ∷ sets) h k l = absurd h
  set_at dims (index ∷ indices) [] h k l = absurd h
  set_at dims (index ∷ indices) (set ∷ sets) h zero l = h.0
  set_at dims (index ∷ indices) (set ∷ sets) h (suc k) l =
      set_at dims indices sets h.1 k (omega (arith, l))
