use Rattle.std.proofs.Common.{◌≡◌, ◌<◌, ◌∙◌, length, get_or, rules, arith, inl, refl, sym, subst}
use Rattle.std.proofs.lemmas.List.{length-map, length_push}
use Rattle.algebra.specs.Nested.{lists}
use Rattle.p3_fri_relation.specs.FoldedQuery.{QueryInput, IsInOrder}
use Rattle.p3_fri_relation.specs.Views.{siblings_opened}
use Rattle.p3_fri_queries.specs.Settings.{query_in, queries_in}
use Rattle.p3_fri_queries.proofs.Lengths.{length_group_rows}
use Rattle.p3_fri_queries.proofs.Queries.{IsNext, query_read, folded_none, folded_read}
use Rattle.p3_fri_queries.proofs.Queries.{indices_length, rows_length, refused_each, refused_some}
use Rattle.p3_fri_queries.proofs.Queries.{ends_all, indices_all, rows_all}
use Rattle.p3_fri_queries.proofs.Turns.{IsTurn, turn_from, read, read_all}
use Rattle.p3_fri_queries.proofs.fold.fold_queries.Invariants.{fields_of}
use Rattle.p3_fri_queries.proofs.fold.fold_queries.Given.{Over}
use Rattle.p3_fri_queries.proofs.fold.fold_queries.Goals.{After-next, In-Some, In-None}
use Rattle.p3_fri_queries.proofs.fold.fold_queries.Goals as goal

-- the loop's iterator, at its turn
turn : (g : Over) (c : After-next g)
    → IsTurn c.args.reduced_openings.items c.into_iter-query-iterator.result
    c.loop-query.query-iterator c.next.new.self c.loop-query.yielded c.next.result
turn g c =
    turn_from c.into_iter-query-iterator.ensures.into_iter_gives
    c.enumerate-query-items.ensures.source c.enumerate-query-items.ensures.count
    c.into_iter.ensures.rest c.into_iter.ensures.len c.args.reduced_openings.ok.0
    c.loop-query.yielded_by c.next.ensures.steps

-- the query that it gives
next : (g : Over) (c : In-Some g)
    → IsNext c.args.positions.now
    (queries_in c.args.setting.now c.args.positions.now (lists c.args.reduced_openings.items))
    (length c.loop-query.yielded) c.in-Some.query
    (query_in c.args.setting.now c.in-Some.query (get_or c.args.positions.now c.in-Some.query 0) c.in-Some.inputs.items)
next g c =
    let setting = c.args.setting.now in
    query_read c.args.positions.now setting.betas.now setting.log_arities.now setting.openings.now
    c.args.reduced_openings.items setting.log_global_max_height setting.log_final_height
    (read (turn g (goal.at.In-Some g c).After-next) c.in-Some.is) c.requires.count

all_read : (g : Over) (c : In-None g) → length c.loop-query.yielded ≡ length c.args.positions.now
all_read g c = read_all (turn g (goal.at.In-None g c).After-next) c.in-None.is ∙ c.requires.count

pub loop-query-init : goal.loop-query-init
loop-query-init g c = folded_none c.in-Ok.ensures.indices c.in-Ok.ensures.rows

pub returns-in-Err-clause-exact : goal.returns-in-Err-clause-exact
returns-in-Err-clause-exact g c remembered = absurd (remembered refl)

pub returns-in-Err-clause-refusal : goal.returns-in-Err-clause-refusal
returns-in-Err-clause-refusal g c = inl refl

pub bounds-positions-query : goal.bounds-positions-query
bounds-positions-query g c =
    let here = next g (goal.at.bounds-positions-query g c).In-Some in
    omega (arith, here.below, here.number)

pub offset_bounds-positions-query : goal.offset_bounds-positions-query
offset_bounds-positions-query g c =
    let here = next g (goal.at.offset_bounds-positions-query g c).In-Some in
    let below : c.in-Some.query < length c.args.positions.now =
    omega (arith, here.below, here.number) in
    search rules

pub fold_to_final-requires-clause-query : goal.fold_to_final-requires-clause-query
fold_to_final-requires-clause-query g c =
    let here = next g (goal.at.fold_to_final-requires-clause-query g c).In-Some in
    omega (arith, here.below, here.number, c.requires.count, c.args.reduced_openings.ok.0)

pub fold_to_final-requires-clause-betas : goal.fold_to_final-requires-clause-betas
fold_to_final-requires-clause-betas g c = c.requires.betas

pub fold_to_final-requires-clause-openings : goal.fold_to_final-requires-clause-openings
fold_to_final-requires-clause-openings g c = c.requires.openings

pub fold_to_final-requires-clause-in_order : goal.fold_to_final-requires-clause-in_order
fold_to_final-requires-clause-in_order g c =
    let here = next g (goal.at.fold_to_final-requires-clause-in_order g c).In-Some in
    subst (λ (q : QueryInput g.row.EF.Denot). IsInOrder q) (sym here.is)
    (c.requires.in_order (length c.loop-query.yielded) here.below)

pub fold_to_final-requires-clause-within_word : goal.fold_to_final-requires-clause-within_word
fold_to_final-requires-clause-within_word g c =
    let here = next g (goal.at.fold_to_final-requires-clause-within_word g c).In-Some in
    c.requires.positions c.in-Some.query 0 (omega (arith, here.below, here.number))

pub fold_to_final-requires-clause-indices : goal.fold_to_final-requires-clause-indices
fold_to_final-requires-clause-indices g c =
    indices_length c.loop-query.folded.group_indices_by_round.items c.loop-query.invariant

pub fold_to_final-requires-clause-rows : goal.fold_to_final-requires-clause-rows
fold_to_final-requires-clause-rows g c =
    rows_length c.loop-query.folded.rows_by_round.items c.loop-query.invariant

pub loop-query-preserved : goal.loop-query-preserved
loop-query-preserved g c =
    let openings : length (siblings_opened c.args.setting.now.openings.now) ≡ length c.args.setting.now.log_arities.now =
    length-map c.args.setting.now.openings.now (λ o. lists o.sibling_values.items) ∙ c.requires.openings in
    let here = query_in c.args.setting.now c.in-Some.query (get_or c.args.positions.now c.in-Some.query 0) c.in-Some.inputs.items in
    folded_read c.loop-query.invariant (next g (goal.at.loop-query-preserved g c).In-Some)
    (length_push c.loop-query.yielded (c.in-Some.query, c.in-Some.inputs))
    (length_group_rows here g.EF.Field.ops (g.S.FriFoldingStrategy.row_fold c.args.setting.now.folding.now)
    c.requires.betas openings)
    (c.in-Ok-fold_to_final.ensures.indices refl) (c.in-Ok-fold_to_final.ensures.rows refl)
    ((c.in-Ok-fold_to_final.ensures.exact (λ e. cc)).0 refl)

pub returns-in-Err-fold_to_final-clause-exact : goal.returns-in-Err-fold_to_final-clause-exact
returns-in-Err-fold_to_final-clause-exact g c =
    refused_each (fields_of g) (g.S.FriFoldingStrategy.row_fold c.args.setting.now.folding.now)
    c.args.final_poly.now (next g (goal.at.returns-in-Err-fold_to_final-clause-exact g c).In-Some)
    c.in-Err-fold_to_final.refusal c.in-Err-fold_to_final.ensures.refusal _

pub returns-in-Err-fold_to_final-clause-refusal : goal.returns-in-Err-fold_to_final-clause-refusal
returns-in-Err-fold_to_final-clause-refusal g c =
    refused_some (fields_of g) (g.S.FriFoldingStrategy.row_fold c.args.setting.now.folding.now)
    c.args.final_poly.now (next g (goal.at.returns-in-Err-fold_to_final-clause-refusal g c).In-Some)
    c.in-Err-fold_to_final.refusal c.in-Err-fold_to_final.ensures.refusal

pub returns-clause-exact : goal.returns-clause-exact
returns-clause-exact g c =
    λ _. (
      λ _. ends_all c.loop-query.invariant (all_read g (goal.at.returns-clause-exact g c).In-None),
      λ _. refl,
    )

pub returns-clause-indices : goal.returns-clause-indices
returns-clause-indices g c =
    indices_all c.loop-query.invariant
    (all_read g (goal.at.returns-clause-indices g c).In-None)

pub returns-clause-rows : goal.returns-clause-rows
returns-clause-rows g c =
    rows_all c.loop-query.invariant
    (all_read g (goal.at.returns-clause-rows g c).In-None)

-- where nothing is answered nothing is said of the answer
pub returns-in-Err-fold_to_final-clause-indices : goal.returns-in-Err-fold_to_final-clause-indices
returns-in-Err-fold_to_final-clause-indices g c = tt

pub returns-clause-refusal : goal.returns-clause-refusal
returns-clause-refusal g c = tt

pub returns-in-Err-fold_to_final-clause-rows : goal.returns-in-Err-fold_to_final-clause-rows
returns-in-Err-fold_to_final-clause-rows g c = tt

pub fold_to_final-requires-clause-within_max_height : goal.fold_to_final-requires-clause-within_max_height
fold_to_final-requires-clause-within_max_height g c = c.requires.within_max_height

pub fold_to_final-requires-clause-within_two_adicity : goal.fold_to_final-requires-clause-within_two_adicity
fold_to_final-requires-clause-within_two_adicity g c = c.requires.within_two_adicity
