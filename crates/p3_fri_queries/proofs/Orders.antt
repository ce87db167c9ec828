-- When a query is in order, by what is found of its rounds and of its inputs.
use Rattle.std.proofs.Common.{◌≡◌, ℕ, ◌+◌, ◌-◌, ◌≤◌, sym, subst, ap, ◌∙◌}
use Rattle.std.proofs.Common.{List, map}
use Rattle.std.specs.Prelude.{sum, slice_index_or}
use Rattle.p3_fri_relation.specs.FoldedQuery.{QueryInput, AreInRange, HaveRows, AreInputsMet, IsInOrder, folded}
use Rattle.p3_fri_relation.specs.FoldedQuery.{value_at, siblings_of_query, folded_value, group_rows}
use Rattle.p3_fri_relation.specs.Queries.{rounds_of}
use Rattle.algebra.specs.Field.{FieldOps}
use Rattle.algebra.specs.Rounds.{chain, chain_rows}

module _ {E : Type 0} (q : QueryInput E) where
  pub rounds_fit : IsInOrder q → AreInRange q.log_arities × HaveRows q.query q.log_arities q.siblings
      × (sum q.log_arities ≤ q.log_height - q.final_height)
  rounds_fit o = (o.log_arities, o.rows, o.distance)

  pub inputs_fit : (log_arities : List ℕ) (inputs : List (ℕ × E))
      → folded q ≡ log_arities → q.inputs ≡ inputs → IsInOrder q
      → (sum log_arities + q.final_height ≡ q.log_height) × AreInputsMet q (map (λ input. input.0) inputs)
  inputs_fit log_arities inputs e f o = (
    subst (λ (arities : List ℕ). sum arities + q.final_height ≡ q.log_height) e o.ends,
    subst (λ (us : List (ℕ × E)). AreInputsMet q (map (λ input. input.0) us)) f o.inputs,
  )

  pub in_order : (log_arities : List ℕ) (inputs : List (ℕ × E))
      → folded q ≡ log_arities → q.inputs ≡ inputs
      → AreInRange q.log_arities × HaveRows q.query q.log_arities q.siblings
      × (sum q.log_arities ≤ q.log_height - q.final_height)
      → (sum log_arities + q.final_height ≡ q.log_height) × AreInputsMet q (map (λ input. input.0) inputs)
      → IsInOrder q
  in_order log_arities inputs e f rounds ends = record {
    log_arities = rounds.0;
    rows = rounds.1;
    distance = rounds.2;
    ends = subst (λ (arities : List ℕ). sum arities + q.final_height ≡ q.log_height) (sym e) ends.0;
    inputs = subst (λ (us : List (ℕ × E)). AreInputsMet q (map (λ input. input.0) us)) (sym f) ends.1;
  }

-- the way from the first input's value is the query's
module _ {E : Type 0} (q : QueryInput E) (F : FieldOps E) (fold : ℕ → ℕ → ℕ → E → List E → E) where
  abbrev from_value : (log_arities : List ℕ) (inputs : List (ℕ × E)) (value : E) → E
  from_value log_arities inputs value =
      (chain F fold (value_at inputs) (rounds_of log_arities q.betas) (siblings_of_query q F fold)
      (record { index = q.index; log_height = q.log_height; value = value })).value

  pub value_of : (log_arities : List ℕ) (inputs : List (ℕ × E)) (value : E)
      → folded q ≡ log_arities → q.inputs ≡ inputs → value ≡ slice_index_or (map (λ u. u.1) inputs) 0 F.zero
      → from_value log_arities inputs value ≡ folded_value q F fold
  value_of log_arities inputs value e f is =
      ap (λ (arities : List ℕ). from_value arities inputs value) (sym e)
      ∙ ap (λ (first : E). from_value (folded q) inputs first) is
      ∙ ap (λ (us : List (ℕ × E)). from_value (folded q) us (slice_index_or (map (λ u. u.1) us) 0 F.zero)) (sym f)

  abbrev rows_from : (log_arities : List ℕ) (inputs : List (ℕ × E)) (value : E) → List (List E)
  rows_from log_arities inputs value =
      chain_rows F fold (value_at inputs) (rounds_of log_arities q.betas) (siblings_of_query q F fold)
      (record { index = q.index; log_height = q.log_height; value = value })

  pub rows_of : (log_arities : List ℕ) (inputs : List (ℕ × E)) (value : E)
      → folded q ≡ log_arities → q.inputs ≡ inputs → value ≡ slice_index_or (map (λ u. u.1) inputs) 0 F.zero
      → rows_from log_arities inputs value ≡ group_rows q F fold
  rows_of log_arities inputs value e f is =
      ap (λ (arities : List ℕ). rows_from arities inputs value) (sym e)
      ∙ ap (λ (first : E). rows_from (folded q) inputs first) is
      ∙ ap (λ (us : List (ℕ × E)). rows_from (folded q) us (slice_index_or (map (λ u. u.1) us) 0 F.zero)) (sym f)
