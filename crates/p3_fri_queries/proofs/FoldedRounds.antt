-- A query's rounds, folded one after another.
use Rattle.std.proofs.Common.{◌≡◌, ℕ, ◌+◌, ◌-◌, ◌/◌, ◌^◌, ◌<◌, ◌≤◌, arith, min}
use Rattle.std.proofs.Common.{List, [], ◌∷◌, ◌++◌, length, map, drop, take, get_or, refl, ap, ◌∙◌, sym, Option}
use Rattle.std.specs.Prelude.{sum, slice_set}
use Rattle.std.proofs.lemmas.List.{length-set, length-take, drop_all}
use Rattle.std.proofs.lemmas.List.Sums.{sum_by-drop_more, sum_by-take-le}
use Rattle.algebra.specs.Field.{FieldOps}
use Rattle.algebra.specs.Rounds.{Link, next_link, row_of_link, chain, chain_rows}
use Rattle.p3_field_core.proofs.IndexPowers.{index_cut}
use Rattle.p3_fri_relation.specs.Queries.{rounds_of, row_indices}
use Rattle.p3_fri_relation.specs.FoldedQuery.{gains}
use Rattle.p3_fri_queries.proofs.Lists.{gains_from, gained, gained_all}
use Rattle.p3_fri_queries.proofs.Ways.{chain_step, rows_step, indices_step, index_step}

module _ {A : Type 0} (F : FieldOps A) (fold : ℕ → ℕ → ℕ → A → List A → A) (values : ℕ → Option A)
    (log_arities : List ℕ) (betas : List A) (siblings : List (List A)) where
  -- the link that the rounds from the `k`-th on lead to
  abbrev chain_from : ℕ → Link A → Link A
  chain_from k link =
      chain F fold values (rounds_of (drop k log_arities) (drop k betas)) (drop k siblings) link

  -- and their rows, each as the only matrix of a query
  abbrev rows_from : ℕ → Link A → List (List (List A))
  rows_from k link = map {A = List A} {B = List (List A)} (λ row. row ∷ [])
      (chain_rows F fold values (rounds_of (drop k log_arities) (drop k betas)) (drop k siblings) link)

  -- the first `k` rounds are folded, and the collectors have gained their rows
  pub record FoldedTo (began : Link A) (old_indices : List (List ℕ))
      (old_rows : List (List (List (List A)))) (k : ℕ) (here : Link A) (indices : List (List ℕ))
      (rows : List (List (List (List A)))) : Type 0 where
    pub left : sum (drop k log_arities) ≤ here.log_height
    pub high : here.log_height ≤ began.log_height
    pub within : here.index < 2 ^ here.log_height
    pub index : here.index / 2 ^ sum (drop k log_arities) ≡ began.index / 2 ^ sum log_arities
    pub indices_length : length log_arities ≤ length indices
    pub rows_length : length log_arities ≤ length rows
    pub value : chain_from k here ≡ chain_from 0 began
    pub indices_gained : gains_from k indices (row_indices (drop k log_arities) here.index)
        ≡ gains_from 0 old_indices (row_indices log_arities began.index)
    pub rows_gained : gains_from k rows (rows_from k here) ≡ gains_from 0 old_rows (rows_from 0 began)

  pub none_folded : (began : Link A) (indices : List (List ℕ)) (rows : List (List (List (List A))))
      → sum log_arities ≤ began.log_height → began.index < 2 ^ began.log_height
      → length log_arities ≤ length indices → length log_arities ≤ length rows
      → FoldedTo began indices rows 0 began indices rows
  none_folded began indices rows left within l m = record {
    left = left;
    high = omega arith;
    within = within;
    index = refl;
    indices_length = l;
    rows_length = m;
    value = refl;
    indices_gained = refl;
    rows_gained = refl;
  }

  module _ {began : Link A} {old_indices : List (List ℕ)} {old_rows : List (List (List (List A)))} where
    -- one round more
    pub folded_on : {k h i : ℕ} {value v b : A} {s row : List A}
        {indices new_indices : List (List ℕ)} {rows new_rows : List (List (List (List A)))}
        → FoldedTo began old_indices old_rows k (record { index = i; log_height = h; value = value }) indices rows
        → k < length log_arities → k < length betas → k < length siblings
        → b ≡ get_or betas k b → s ≡ get_or siblings k []
        → v ≡ (next_link F fold values (record { log_arity = get_or log_arities k 0; beta = b }) s
        (record { index = i; log_height = h; value = value })).value
        → row ≡ row_of_link (record { log_arity = get_or log_arities k 0; beta = b }) s
        (record { index = i; log_height = h; value = value })
        → new_indices ≡ slice_set indices k (get_or indices k [] ++ (i / 2 ^ get_or log_arities k 0) ∷ [])
        → new_rows ≡ slice_set rows k (get_or rows k [] ++ (row ∷ []) ∷ [])
        → FoldedTo began old_indices old_rows (k + 1)
        (record { index = i / 2 ^ get_or log_arities k 0; log_height = h - get_or log_arities k 0; value = v })
        new_indices new_rows
    folded_on {k} {h} {i} {value} {v} {b} {s} {row} {indices} {new_indices} {rows} {new_rows} t l₁ l₂ l₃
        is_beta is_siblings is_value is_row gain_index gain_row =
        let more = sum_by-drop_more (λ x. x) log_arities k 0 l₁ in
        let l₄ = t.indices_length in
        let l₅ = t.rows_length in
        let left = t.left in
        let high = t.high in
        record {
          left = omega (arith, more);
          high = omega arith;
          within = index_cut _ _ _ t.within (omega (arith, more));
          index = index_step k log_arities i l₁ ∙ t.index;
          indices_length = omega (arith, ap length gain_index ∙ length-set indices k _);
          rows_length = omega (arith, ap length gain_row ∙ length-set rows k _);
          value = chain_step F fold values k log_arities betas siblings b s h i value v l₁ l₂ l₃
              is_beta is_siblings is_value
              ∙ t.value;
          indices_gained = gained k indices new_indices _ _ _ (omega arith) gain_index
              (indices_step k log_arities i l₁)
              ∙ t.indices_gained;
          rows_gained = gained k rows new_rows _ _ _ (omega arith) gain_row
              (ap (λ (rs : List (List A)). map {A = List A} {B = List (List A)} (λ row. row ∷ []) rs)
              (rows_step F fold values k log_arities betas siblings b s h i value v row l₁ l₂ l₃
              is_beta is_siblings is_value is_row))
              ∙ t.rows_gained;
        }

    module _ {k : ℕ} {here : Link A} {indices : List (List ℕ)} {rows : List (List (List (List A)))}
        (t : FoldedTo began old_indices old_rows k here indices rows) (all : length log_arities ≤ k) where
      end : drop k log_arities ≡ []
      end = drop_all k log_arities all

      -- all rounds are folded: the value, the index, and what the collectors have gained
      pub value_reached : here.value ≡ (chain_from 0 began).value
      value_reached =
          ap (λ (link : Link A). link.value)
          (sym (ap (λ (arities : List ℕ). chain F fold values (rounds_of arities (drop k betas)) (drop k siblings) here) end)
          ∙ t.value)

      pub index_reached : here.index ≡ began.index / 2 ^ sum log_arities
      index_reached =
          let one : here.index / 2 ^ sum (drop k log_arities) ≡ here.index / 1 =
          ap (λ (arities : List ℕ). here.index / 2 ^ sum arities) end in
          let is = t.index in
          omega (arith, one)

      pub indices_reached : indices ≡ gains old_indices (row_indices log_arities began.index)
      indices_reached =
          gained_all k indices old_indices _ _
          (ap (λ (arities : List ℕ). row_indices arities here.index) end) t.indices_gained

      pub rows_reached : rows ≡ gains old_rows (rows_from 0 began)
      rows_reached =
          gained_all k rows old_rows _ _
          (ap (λ (arities : List ℕ). map {A = List A} {B = List (List A)} (λ row. row ∷ [])
          (chain_rows F fold values (rounds_of arities (drop k betas)) (drop k siblings) here)) end)
          t.rows_gained

-- the first rounds of those that there are, as far as there are challenges and openings
module _ (n m : ℕ) (log_arities folded : List ℕ) (are : folded ≡ take (min n m) log_arities) where
  pub as_many : (length folded ≤ n) × (length folded ≤ m) × (length folded ≤ length log_arities)
  as_many =
      let l = ap length are ∙ length-take (min n m) log_arities in
      (omega arith, omega arith, omega arith)

  pub sum_within : (h f : ℕ) → sum log_arities ≤ h - f → sum folded ≤ h
  sum_within h f fits =
      let l = ap sum are in
      omega (arith, sum_by-take-le (λ x. x) log_arities (min n m))
