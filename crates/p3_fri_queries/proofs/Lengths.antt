-- Where each round has a challenge and an opening, a query folds them all.
use Rattle.std.proofs.Common.{◌≡◌, ℕ, List, [], length, get_or, ap, ◌∙◌, arith}
use Rattle.std.proofs.lemmas.List.{take_all, length-map}
use Rattle.algebra.specs.Field.{FieldOps}
use Rattle.algebra.specs.Rounds.{chain_rows}
use Rattle.p3_fri_relation.specs.Queries.{rounds_of}
use Rattle.p3_fri_relation.specs.FoldedQuery.{QueryInput, folded, value_at, siblings_of_query, start, group_rows}
use Rattle.p3_fri_relation.proofs.QueryLinks.{length-chain_rows}

module _ {E : Type 0} (q : QueryInput E) where
  pub folded_all : length q.betas ≡ length q.log_arities → length q.siblings ≡ length q.log_arities
      → folded q ≡ q.log_arities
  folded_all e f = take_all _ q.log_arities (omega arith)

  pub length_group_rows : (F : FieldOps E) (fold : ℕ → ℕ → ℕ → E → List E → E)
      → length q.betas ≡ length q.log_arities → length q.siblings ≡ length q.log_arities
      → length (group_rows q F fold) ≡ length q.log_arities
  length_group_rows F fold e f =
      ap (λ (arities : List ℕ). length (chain_rows F fold (value_at q.inputs) (rounds_of arities q.betas)
      (siblings_of_query q F fold) (start q F fold))) (folded_all e f)
      ∙ length-chain_rows F fold (value_at q.inputs) q.log_arities q.betas (siblings_of_query q F fold)
      (start q F fold) e (length-map q.siblings (λ rows. get_or rows q.query []) ∙ f)
