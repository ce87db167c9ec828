use Rattle.std.proofs.Common.{◌≡◌, ℕ, subst, List, refl, sym, ap, ◌∙◌, map, [], ◌∷◌, Result, Ok, Err}
use Rattle.std.specs.Prelude.{IsErr, IsErrAnd}
use Rattle.std.proofs.lemmas.List.{length-map}
use Rattle.algebra.specs.Nested.{lists}
use Rattle.p3_fri_relation.specs.declared.error.FriError.TheVariants.{OutOfMemory}
use Rattle.p3_fri_relation.specs.FoldedQuery.{QueryInput, IsInOrder, gains}
use Rattle.p3_fri_relation.specs.Faults.{QueryFault}
use Rattle.p3_fri_relation.specs.Views.{rows_collected}
use Rattle.p3_fri_queries.specs.Settings.{query_in}
use Rattle.p3_fri_queries.proofs.Lists.{range_take, have_take}
use Rattle.p3_fri_queries.proofs.QueryRefusals.{refused, handed_on}
use Rattle.p3_fri_queries.proofs.Orders.{value_of, rows_of}
use Rattle.p3_fri_queries.proofs.FoldedRounds.{as_many, sum_within}
use Rattle.p3_fri_queries.proofs.query.fold_query.Given.{Over}
use Rattle.p3_fri_queries.proofs.query.fold_query.Goals.{After-as_slice-inputs, After-folded_arities-folded}
use Rattle.p3_fri_queries.proofs.query.fold_query.Goals as goal

as_handed_on : {T A : Type 0} (r : Result T A) (e : A) → IsErr r × IsErrAnd r (λ x. x ≡ e) → r ≡ Err e
as_handed_on (Ok v) e h = absurd h.1
as_handed_on (Err x) e h = ap Err h.1

-- the query, with these inputs
abbrev query_of : (g : Over) (c : After-as_slice-inputs g) → List (ℕ × g.row.EF.Denot) → QueryInput g.row.EF.Denot
query_of g c inputs =
    query_in c.args.setting.now c.args.query c.args.start_index.now inputs

-- the query that is folded is in order
in_order : (g : Over) (c : After-folded_arities-folded g)
    → IsInOrder (query_of g (goal.at.After-folded_arities-folded g c).After-as_slice-inputs c.args.reduced_openings.items)
in_order g c =
    let there = (goal.at.After-folded_arities-folded g c).After-as_slice-inputs in
    subst (λ (inputs : List (ℕ × g.row.EF.Denot)). IsInOrder (query_of g there inputs))
    c.as_slice-inputs.ensures.value ((c.in_ok-first.ensures.exact c.args.start_index.now).0 refl)

pub returns-in_err-first-clause-exact : goal.returns-in_err-first-clause-exact
returns-in_err-first-clause-exact g c =
    let there = (goal.at.returns-in_err-first-clause-exact g c).After-as_slice-inputs in
    λ _. (
      λ is_ok. absurd (refused c.from_residual.result c.from_residual.ensures.0 is_ok),
      λ o. absurd (cc ((c.in_err-first.ensures.exact c.args.start_index.now).1
          (subst (λ (inputs : List (ℕ × g.row.EF.Denot)). IsInOrder (query_of g there inputs))
          (sym c.as_slice-inputs.ensures.value) o))),
    )

pub returns-in_err-first-clause-refusal : goal.returns-in_err-first-clause-refusal
returns-in_err-first-clause-refusal g c =
    let there = (goal.at.returns-in_err-first-clause-refusal g c).After-as_slice-inputs in
    handed_on _ c.from_residual.result c.in_err-first.field-0.0 c.from_residual.ensures
    (subst (λ (inputs : List (ℕ × g.row.EF.Denot)). QueryFault (query_of g there inputs) c.in_err-first.field-0.0)
    c.as_slice-inputs.ensures.value (c.in_err-first.ensures.fault c.args.start_index.now))

pub fold_rounds-requires-clause-range : goal.fold_rounds-requires-clause-range
fold_rounds-requires-clause-range g c =
    let o = in_order g (goal.at.fold_rounds-requires-clause-range g c).After-folded_arities-folded in
    rw c.folded_arities-folded.ensures (range_take _ _ o.log_arities)

pub fold_rounds-requires-clause-have_rows : goal.fold_rounds-requires-clause-have_rows
fold_rounds-requires-clause-have_rows g c =
    let o = in_order g (goal.at.fold_rounds-requires-clause-have_rows g c).After-folded_arities-folded in
    rw c.folded_arities-folded.ensures (have_take c.args.query _ _ _ o.rows)

pub fold_rounds-requires-clause-distance : goal.fold_rounds-requires-clause-distance
fold_rounds-requires-clause-distance g c =
    let o = in_order g (goal.at.fold_rounds-requires-clause-distance g c).After-folded_arities-folded in
    sum_within _ _ _ _ c.folded_arities-folded.ensures c.args.setting.now.log_global_max_height c.args.setting.now.log_final_height o.distance

pub returns-clause-exact : goal.returns-clause-exact
returns-clause-exact g c =
    λ _. (λ _. in_order g (goal.at.returns-clause-exact g c).After-folded_arities-folded, λ _. refl)

pub returns-clause-value : goal.returns-clause-value
returns-clause-value g c =
    let there = (goal.at.returns-clause-value g c).After-as_slice-inputs in
    c.in_ok-link.ensures.value
    ∙ value_of (query_of g there c.args.reduced_openings.items) g.EF.Field.ops (g.S.FriFoldingStrategy.row_fold c.args.setting.now.folding.now)
    c.folded_arities-folded.result.now c.as_slice-inputs.result.now c.in_ok-first.first
    (sym c.folded_arities-folded.ensures) (sym c.as_slice-inputs.ensures.value)
    (c.in_ok-first.ensures.value g.EF.Field.ops.zero)

pub returns-clause-rows : goal.returns-clause-rows
returns-clause-rows g c =
    let there = (goal.at.returns-clause-rows g c).After-as_slice-inputs in
    let E = g.row.EF.Denot in
    λ _. c.in_ok-link.ensures.rows refl
    ∙ ap (λ (rows : List (List E)). gains (rows_collected c.args.rows_by_round.now) (map {A = List E} {B = List (List E)} (λ row. row ∷ []) rows))
    (rows_of (query_of g there c.args.reduced_openings.items) g.EF.Field.ops (g.S.FriFoldingStrategy.row_fold c.args.setting.now.folding.now)
    c.folded_arities-folded.result.now c.as_slice-inputs.result.now c.in_ok-first.first
    (sym c.folded_arities-folded.ensures) (sym c.as_slice-inputs.ensures.value)
    (c.in_ok-first.ensures.value g.EF.Field.ops.zero))

pub fold_rounds-requires-clause-betas : goal.fold_rounds-requires-clause-betas
fold_rounds-requires-clause-betas g c = (as_many _ _ _ _ c.folded_arities-folded.ensures).0

pub fold_rounds-requires-clause-openings : goal.fold_rounds-requires-clause-openings
fold_rounds-requires-clause-openings g c =
    rw (← length-map c.args.setting.now.openings.now (λ o. lists o.sibling_values.items))
    (as_many _ _ _ _ c.folded_arities-folded.ensures).1

pub fold_rounds-requires-clause-indices : goal.fold_rounds-requires-clause-indices
fold_rounds-requires-clause-indices g c =
    rw c.requires.indices (as_many _ _ _ _ c.folded_arities-folded.ensures).2

pub fold_rounds-requires-clause-rows : goal.fold_rounds-requires-clause-rows
fold_rounds-requires-clause-rows g c =
    rw c.requires.rows (as_many _ _ _ _ c.folded_arities-folded.ensures).2

pub returns-in_err-link-clause-exact : goal.returns-in_err-link-clause-exact
returns-in_err-link-clause-exact g c =
    λ other. absurd (other (as_handed_on _ OutOfMemory c.from_residual-in_err-link.ensures))

pub returns-in_err-link-clause-refusal : goal.returns-in_err-link-clause-refusal
returns-in_err-link-clause-refusal g c =
    handed_on _ c.from_residual-in_err-link.result OutOfMemory c.from_residual-in_err-link.ensures tt
