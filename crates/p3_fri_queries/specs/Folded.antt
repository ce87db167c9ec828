-- All queries of a low-degree test, each folded by itself.
use Rattle.std.specs.Prelude.{◌≡◌, ◌/◌, ◌^◌, ℕ, List, [], ◌∷◌, length, map, sum}
use Rattle.std.specs.Prelude.{slice_index, slice_index_or}
use Rattle.algebra.specs.Field.{FieldOps}
use Rattle.algebra.specs.Polynomial.{val, tabulate}
use Rattle.algebra.specs.TwoAdic.{pt}
use Rattle.p3_fri_relation.specs.declared.proof.CommitPhaseMultiStep.{CommitPhaseMultiStep}
use Rattle.p3_fri_relation.specs.Setting.{Fields}
use Rattle.p3_fri_relation.specs.Queries.{row_indices}
use Rattle.p3_fri_relation.specs.FoldedQuery.{QueryInput, folded_value, group_rows}
use Rattle.p3_fri_relation.specs.Views.{query_input}

-- what the call is given of the `j`-th query, where `inputs` are those of each
module _ {E M Com Data Path Err : Type 0} where
  abbrev pub query_at : (positions : List ℕ) (betas : List E) (log_arities : List ℕ)
      → List (CommitPhaseMultiStep E M Com Data Path Err) → (inputs : List (List (ℕ × E)))
      → (log_height final_height j : ℕ) → QueryInput E
  query_at positions betas log_arities openings inputs log_height final_height j =
      query_input j (slice_index positions j) betas log_arities openings
      (slice_index_or inputs j []) log_height final_height

-- the query ends at the final polynomial's value, at the point of the index to which its rounds
-- shift its position
abbrev pub EndsAtFinal : {F E : Type 0} → Fields F E → (fold : ℕ → ℕ → ℕ → E → List E → E)
    → (final_poly : List E) → QueryInput E → Type 0
EndsAtFinal f fold final_poly q = folded_value q f.ext fold
    ≡ val f.ext final_poly
    (f.lift (pt f.base f.root (q.index / 2 ^ sum q.log_arities) q.final_height))

-- the index of each query's row, round by round
abbrev pub indices_folded : (log_arities positions : List ℕ) → List (List ℕ)
indices_folded log_arities positions = tabulate (length log_arities)
    (λ k. map (λ position. slice_index (row_indices log_arities position) k) positions)

-- the row of each query, as the one matrix's of its set, round by round
abbrev pub rows_folded : {E : Type 0} → FieldOps E → (fold : ℕ → ℕ → ℕ → E → List E → E)
    → (num_rounds num_queries : ℕ) → (q : ℕ → QueryInput E) → List (List (List (List E)))
rows_folded ops fold num_rounds num_queries q = tabulate num_rounds
    (λ k. tabulate num_queries (λ j. slice_index_or (group_rows (q j) ops fold) k [] ∷ []))
