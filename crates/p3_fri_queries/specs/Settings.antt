-- What the calls are given, as the relation has it.
use Rattle.std.specs.Prelude.{ℕ, List, slice_index, slice_index_or, [], map}
use Rattle.algebra.specs.Rounds.{Link, Round}
use Rattle.p3_fri_relation.specs.FoldedQuery.{QueryInput}
use Rattle.p3_fri_relation.specs.Views.{query_input, siblings_opened}
use Rattle.p3_fri_queries.specs.declared.setting.QuerySetting.{QuerySetting}
use Rattle.p3_fri_queries.specs.declared.link.QueryLink.{QueryLink}
use Rattle.p3_fri_queries.specs.declared.link.FoldRound.{FoldRound}
use Rattle.p3_fri_queries.specs.Folded.{query_at}

module _ {E M S Com Data Path Err : Type 0} (s : QuerySetting E M S Com Data Path Err) where
  -- a query in such a setting
  abbrev pub query_in : (query index : ℕ) (inputs : List (ℕ × E)) → QueryInput E
  query_in query index inputs = query_input query index s.betas.now s.log_arities.now
      s.openings.now inputs s.log_global_max_height s.log_final_height

  -- the `j`-th of several, where `inputs` are those of each
  abbrev pub queries_in : (positions : List ℕ) (inputs : List (List (ℕ × E))) (j : ℕ)
      → QueryInput E
  queries_in positions inputs j = query_at positions s.betas.now s.log_arities.now
      s.openings.now inputs s.log_global_max_height s.log_final_height j

  -- the siblings of a query, round by round
  abbrev pub siblings_in : (query : ℕ) → List (List E)
  siblings_in query = map (λ rows. slice_index_or rows query []) (siblings_opened s.openings.now)

module _ {E : Type 0} where
  -- where a query stands, as a link of its chain
  abbrev pub link_of : QueryLink E → Link E
  link_of l = record { index = l.index; log_height = l.log_height; value = l.value }

  abbrev pub round_of : FoldRound E → Round E
  round_of r = record { log_arity = r.log_arity; beta = r.beta }
