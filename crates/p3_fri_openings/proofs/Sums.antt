-- More rows in the sums over rows.
use Rattle.std.proofs.Common.{◌≡◌, ℕ, ◌+◌, ◌-◌, ◌/◌, ◌≤◌, ◌<◌, List, [], length, take, drop, get_or}
use Rattle.std.proofs.Common.{sym, ap, ap₂, ◌∙◌, arith}
use Rattle.std.proofs.lemmas.List.{get_or-take, get_or-drop, length-drop, length-take-le}
use Rattle.algebra.specs.Field.{FieldOps, IsRing}
use Rattle.algebra.specs.Polynomial.{sum_below}
use Rattle.algebra.proofs.PolynomialProduct.{sum_below-equal}
use Rattle.p3_field_core.specs.RowSums.{column_term}
use Rattle.p3_field_core.proofs.ColumnSums.{two_parts}
use Rattle.p3_matrix.specs.Rows.{rows_of}
use Rattle.p3_matrix.proofs.Rows.{length-rows_of, get_or-entry}
use Rattle.p3_fri_openings.specs.Sums.{weighted, weighted_sum}

-- an entry of some of a list's entries
pub entry_between : {X : Type 0} (xs : List X) (s n i : ℕ) (d : X) → i < n
    → get_or (take n (drop s xs)) i d ≡ get_or xs (s + i) d
entry_between xs s n i d l = get_or-take n (drop s xs) i d l ∙ get_or-drop s xs i d

module _ {F E : Type 0} (B : FieldOps F) (K : FieldOps E) (R : IsRing K) (lift : F → E)
    (points : List F) (inverses : List E) (rows : List (List F)) (j : ℕ) where
  pub weighted_none : (s : E) → s ≡ K.add s (weighted_sum B K lift 0 points inverses rows j)
  unfolding sum_below
  weighted_none s = sym (R.add_zero s)

  -- the row `i`, times the inverse difference and the point beside it
  abbrev term : ℕ → E
  term i = weighted B K lift j (K.mul (get_or inverses i K.zero) (lift (get_or points i B.zero)))
      (get_or rows i [])

  module _ (s e w : ℕ) (order : s ≤ e) (within : e ≤ length rows) (column : j < w)
      (weights : List E) (block : List F)
      (are : (i : ℕ) → i < e - s → get_or weights i K.zero
      ≡ K.mul (get_or inverses (s + i) K.zero) (lift (get_or points (s + i) B.zero)))
      (lie : rows_of w block ≡ take (e - s) (drop s rows)) where
    many : length block / w ≡ e - s
    many =
        sym (length-rows_of w block) ∙ ap length lie
        ∙ length-take-le (e - s) (drop s rows) (omega (arith, within, length-drop s rows))

    term_is : (i : ℕ) → i < e - s → column_term B K lift w weights block j i ≡ term (s + i)
    term_is i l = ap₂ (λ a b. K.mul a (lift b)) (are i l)
        (sym (get_or-entry w block i j [] B.zero (omega (arith, l, many)) column)
        ∙ ap (λ rs. get_or (get_or rs i []) j B.zero) lie
        ∙ ap (λ r. get_or r j B.zero) (entry_between rows s (e - s) i [] l))

    -- a block of rows more
    pub weighted_block : (first old new : E)
        → old ≡ K.add first (weighted_sum B K lift s points inverses rows j)
        → new ≡ K.add old (sum_below K (e - s) (column_term B K lift w weights block j))
        → new ≡ K.add first (weighted_sum B K lift e points inverses rows j)
    weighted_block first old new c n = two_parts K R s (e - s) e term first old new (omega (arith, order)) c
        (n ∙ ap (λ t. K.add old t) (sum_below-equal K (e - s) (column_term B K lift w weights block j)
        (λ i. term (s + i)) term_is))
