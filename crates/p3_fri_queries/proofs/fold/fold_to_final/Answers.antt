use Rattle.std.proofs.Common.{◌≡◌, ◌↔◌, ◌∙◌, true, Err, [], ◌∷◌, map, refl, ap, ap₂, arith, inl, inr}
use Rattle.std.proofs.lemmas.List.{length-map, with_items_is}
use Rattle.algebra.specs.Nested.{lists}
use Rattle.algebra.specs.Polynomial.{val}
use Rattle.algebra.specs.TwoAdic.{pt}
use Rattle.p3_fri_relation.specs.Setting.{Fields}
use Rattle.p3_fri_relation.specs.Queries.{row_indices}
use Rattle.p3_fri_relation.specs.FoldedQuery.{group_rows, gains}
use Rattle.p3_fri_relation.specs.Views.{rows_collected}
use Rattle.p3_fri_queries.specs.Folded.{EndsAtFinal}
use Rattle.p3_fri_queries.specs.Settings.{query_in}
use Rattle.p3_fri_queries.proofs.Lengths.{folded_all}
use Rattle.p3_fri_queries.proofs.Queries.{ends_here}
use Rattle.p3_fri_queries.proofs.Refusals.{wants_memory, not_ok}
use Rattle.p3_fri_queries.proofs.fold.fold_to_final.Given.{Over}
use Rattle.p3_fri_queries.proofs.fold.fold_to_final.Goals.{After-ends_at_final}
use Rattle.p3_fri_queries.proofs.fold.fold_to_final.Goals as goal

abbrev fields_of : (g : Over) → Fields g.row.F.Denot g.row.EF.Denot
fields_of g = record {
  base = g.F.Field.ops;
  ext = g.EF.Field.ops;
  lift = g.EF.ExtensionField.lift;
  coefficients = g.EF.ExtensionField.coefficients;
  degree = g.EF.ExtensionField.DIMENSION;
  root = g.F.TwoAdicField.root;
  two_adicity = g.F.TwoAdicField.TWO_ADICITY;
  shift = g.F.Field.GENERATOR;
}

-- what the comparison with the final polynomial tells
ends : (g : Over) (c : After-ends_at_final g)
    → (c.in-Ok.value ≡ val g.EF.Field.ops c.args.final_poly.now
    (g.EF.ExtensionField.lift (pt g.F.Field.ops g.F.TwoAdicField.root c.fold_query.new.start_index c.args.setting.now.log_final_height)))
    ↔ EndsAtFinal (fields_of g) (g.S.FriFoldingStrategy.row_fold c.args.setting.now.folding.now) c.args.final_poly.now
    (query_in c.args.setting.now c.args.query c.args.position c.args.reduced_openings.items)
ends g c =
    ends_here (fields_of g) (g.S.FriFoldingStrategy.row_fold c.args.setting.now.folding.now) c.args.final_poly.now
    (query_in c.args.setting.now c.args.query c.args.position c.args.reduced_openings.items)
    c.in-Ok.value c.fold_query.new.start_index c.requires.betas
    (length-map c.args.setting.now.openings.now (λ o. lists o.sibling_values.items) ∙ c.requires.openings)
    c.in-Ok.ensures.value (c.in-Ok.ensures.index refl)

pub ends_at_final-requires : goal.ends_at_final-requires
ends_at_final-requires g c = omega (arith, c.requires.in_order.ends, c.requires.within_two_adicity)

pub fold_query-requires-clause-query : goal.fold_query-requires-clause-query
fold_query-requires-clause-query g c = c.requires.query

pub fold_query-requires-clause-within_word : goal.fold_query-requires-clause-within_word
fold_query-requires-clause-within_word g c = c.requires.within_word

pub fold_query-requires-clause-within_max_height : goal.fold_query-requires-clause-within_max_height
fold_query-requires-clause-within_max_height g c = c.requires.within_max_height

-- the query is in order: nothing but want of memory is refused
pub returns-in-Err-clause-refusal : goal.returns-in-Err-clause-refusal
returns-in-Err-clause-refusal g c =
    inl (wants_memory g.row.EF.Denot c.in-Err.refusal
    (λ other. not_ok ((c.in-Err.ensures.exact other).1 c.requires.in_order)))

pub returns-in-Err-clause-exact : goal.returns-in-Err-clause-exact
returns-in-Err-clause-exact g c remembered =
    absurd (remembered (ap Err (wants_memory g.row.EF.Denot c.in-Err.refusal
    (λ other. not_ok ((c.in-Err.ensures.exact other).1 c.requires.in_order)))))

pub returns-in-Err-clause-indices : goal.returns-in-Err-clause-indices
returns-in-Err-clause-indices g c ok = absurd (not_ok ok)

pub returns-in-Err-clause-rows : goal.returns-in-Err-clause-rows
returns-in-Err-clause-rows g c ok = absurd (not_ok ok)

pub returns-then-ends_at_final-clause-exact : goal.returns-then-ends_at_final-clause-exact
returns-then-ends_at_final-clause-exact g c remembered = (
  (λ ok. (ends g (goal.at.returns-then-ends_at_final-clause-exact g c).After-ends_at_final).0
      (c.ends_at_final.ensures.0 c.if-ends_at_final.true)),
  (λ held. refl),
)

pub returns-then-ends_at_final-clause-indices : goal.returns-then-ends_at_final-clause-indices
returns-then-ends_at_final-clause-indices g c ok =
    ap (λ xs. lists xs) (with_items_is c.args.folded.now.group_indices_by_round c.fold_query.new.group_indices_by_round
    (c.fold_query.auto.group_indices_by_round ∙ c.deref_mut.ensures.len))
    ∙ c.in-Ok.ensures.indices refl
    ∙ ap₂ (λ xs arities. gains (lists xs) (row_indices arities c.args.position)) c.deref_mut.ensures.value
    (folded_all (query_in c.args.setting.now c.args.query c.args.position c.args.reduced_openings.items) c.requires.betas
    (length-map c.args.setting.now.openings.now (λ o. lists o.sibling_values.items) ∙ c.requires.openings))

pub returns-then-ends_at_final-clause-rows : goal.returns-then-ends_at_final-clause-rows
returns-then-ends_at_final-clause-rows g c ok =
    ap (λ xs. rows_collected xs) (with_items_is c.args.folded.now.rows_by_round c.fold_query.new.rows_by_round
    (c.fold_query.auto.rows_by_round ∙ c.deref_mut-2.ensures.len))
    ∙ c.in-Ok.ensures.rows refl
    ∙ ap (λ xs. gains (rows_collected xs) (map (λ row. row ∷ []) (group_rows
    (query_in c.args.setting.now c.args.query c.args.position c.args.reduced_openings.items) g.EF.Field.ops
    (g.S.FriFoldingStrategy.row_fold c.args.setting.now.folding.now)))) c.deref_mut-2.ensures.value

pub returns-else-ends_at_final-clause-exact : goal.returns-else-ends_at_final-clause-exact
returns-else-ends_at_final-clause-exact g c remembered = (
  (λ ok. absurd (not_ok ok)),
  (λ held. let met : c.ends_at_final.result ≡ true =
      c.ends_at_final.ensures.1 ((ends g (goal.at.returns-else-ends_at_final-clause-exact g c).After-ends_at_final).1 held) in
      absurd cc),
)

pub returns-else-ends_at_final-clause-refusal : goal.returns-else-ends_at_final-clause-refusal
returns-else-ends_at_final-clause-refusal g c = inr (
  refl,
  λ held.
      let met : c.ends_at_final.result ≡ true =
      c.ends_at_final.ensures.1 ((ends g (goal.at.returns-else-ends_at_final-clause-refusal g c).After-ends_at_final).1 held) in
      cc,
)

pub returns-else-ends_at_final-clause-indices : goal.returns-else-ends_at_final-clause-indices
returns-else-ends_at_final-clause-indices g c ok = absurd (not_ok ok)

pub returns-else-ends_at_final-clause-rows : goal.returns-else-ends_at_final-clause-rows
returns-else-ends_at_final-clause-rows g c ok = absurd (not_ok ok)
