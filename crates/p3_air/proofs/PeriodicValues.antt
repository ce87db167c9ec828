-- The values of periodic columns at a row, one column more, and at the end.
use Rattle.std.proofs.Common.{◌≡◌, ℕ, ◌<◌, ◌≤◌, ◌+◌, ◌%◌, List, [], ◌∷◌, ◌++◌, length}
use Rattle.std.proofs.Common.{take, get_or, All}
use Rattle.std.proofs.Common.{sym, ap, ap₂, ◌∙◌, subst}
use Rattle.std.proofs.lemmas.List.{take_all, take_more, get_or-map, length-map}
use Rattle.std.specs.declared.vec.Vec.{Vec}
use Rattle.algebra.specs.Field.{FieldOps}
use Rattle.algebra.specs.Nested.{lists}
use Rattle.algebra.proofs.Nested.{length-lists}
use Rattle.p3_air.specs.Satisfied.{periodic_at}
use Rattle.p3_air.proofs.First.{list_read}

module _ {V A : Type 0} (K : FieldOps V) (columns : List (Vec V A)) (row : ℕ) where
  abbrev all_values : List V
  all_values = periodic_at K (lists columns) row

  length_values : length all_values ≡ length columns
  length_values = length-map (lists columns) _ ∙ length-lists columns

  -- a column that was read isn't empty
  pub period_read : All (λ column. 0 < length column) (lists columns) → (i : ℕ)
      → (column : Vec V A) → i < length columns → column ≡ get_or columns i column
      → 0 < length column.items
  period_read periods i column l e =
      subst (λ c. 0 < length c) (list_read columns i column l e)
      (periods i [] (subst (λ n. i < n) (sym (length-lists columns)) l))

  -- one value more
  pub values_more : (i : ℕ) (column : Vec V A) (value : V) (before after : List V)
      → i < length columns → column ≡ get_or columns i column
      → value ≡ get_or column.items (row % length column.items) K.zero
      → before ≡ take i all_values → after ≡ before ++ value ∷ []
      → after ≡ take (i + 1) all_values
  values_more i column value before after l e is h grown =
      let at : ℕ → List V → V = λ r c. get_or c (r % length c) K.zero in
      let found : get_or all_values i K.zero ≡ value =
      get_or-map (at row) (lists columns) i [] K.zero
      (subst (λ n. i < n) (sym (length-lists columns)) l)
      ∙ ap (at row) (list_read columns i column l e) ∙ sym is in
      grown ∙ ap₂ (λ xs v. xs ++ v ∷ []) h (sym found)
      ∙ sym (take_more all_values i K.zero (subst (λ n. i < n) (sym length_values) l))

  -- all values
  pub values_end : (i : ℕ) (values : List V) → length columns ≤ i → values ≡ take i all_values
      → values ≡ all_values
  values_end i values l h =
      h ∙ take_all i all_values (subst (λ n. n ≤ i) (sym length_values) l)
