use Rattle.std.proofs.Common.{arith, rules, refl, ap, get_or}
use Rattle.std.proofs.Math.Nat.{lt_of_lt_of_le}
use Rattle.std.proofs.lemmas.List.{length-map}
use Rattle.std.proofs.lemmas.List.Sums.{sum_by-drop_more}
use Rattle.algebra.specs.Nested.{lists, nested}
use Rattle.algebra.proofs.Nested.{length-lists}
use Rattle.p3_fri_queries.proofs.Lists.{siblings_at, row_at, in_range_at}
use Rattle.p3_fri_queries.proofs.FoldedRounds.{none_folded, folded_on, value_reached, index_reached, indices_reached, rows_reached}
use Rattle.std.proofs.lemmas.Result.{IfOk-from_err}
use Rattle.p3_fri_queries.proofs.rounds.fold_rounds.Goals as goal

pub loop-round-init : goal.loop-round-init
loop-round-init g c =
    none_folded _ _ _ _ _ _ _ _ _ c.requires.distance c.requires.within_word
    (omega (arith, c.requires.indices, length-lists c.args.group_indices_by_round.now))
    (omega (arith, c.requires.rows, length-map c.args.rows_by_round.now (λ round. nested round.items)))

pub loop-round-preserved : goal.loop-round-preserved
loop-round-preserved g c =
    let k = c.loop-round.round in
    let openings = c.args.setting.now.openings.now in
    let opening = c.index-setting-round-in-loop-round in
    let has = siblings_at (λ o. lists o.sibling_values.items) c.args.query k openings
    (get_or openings k opening.result)
    (lt_of_lt_of_le c.loop-round-test.true c.requires.openings) (ap (λ o. get_or openings k o) opening.is) in
    folded_on _ _ _ _ _ _ c.loop-round.invariant c.loop-round-test.true
    (lt_of_lt_of_le c.loop-round-test.true c.requires.betas) has.0
    (ap (λ b. get_or c.args.setting.now.betas.now k b) c.index-setting-round.is) has.1
    c.in_ok-value.ensures.0 c.in_ok-value.ensures.1
    (c.in_ok-collect.ensures.indices refl) (c.in_ok-collect.ensures.rows refl)

pub fold_opening-requires-clause-has_row : goal.fold_opening-requires-clause-has_row
fold_opening-requires-clause-has_row g c =
    let k = c.loop-round.round in
    let openings = c.args.setting.now.openings.now in
    let opening = c.index-setting-round-in-loop-round in
    row_at (λ o. lists o.sibling_values.items) c.args.query k c.args.setting.now.log_arities.now openings
    (get_or openings k opening.result) c.requires.have_rows c.loop-round-test.true
    (lt_of_lt_of_le c.loop-round-test.true c.requires.openings)
    (ap (λ o. get_or openings k o) opening.is)

pub fold_opening-requires-clause-positive : goal.fold_opening-requires-clause-positive
fold_opening-requires-clause-positive g c =
    (in_range_at c.loop-round.round c.args.setting.now.log_arities.now c.requires.range c.loop-round-test.true).0

pub fold_opening-requires-clause-small : goal.fold_opening-requires-clause-small
fold_opening-requires-clause-small g c =
    (in_range_at c.loop-round.round c.args.setting.now.log_arities.now c.requires.range c.loop-round-test.true).1

pub fold_opening-requires-clause-within_word : goal.fold_opening-requires-clause-within_word
fold_opening-requires-clause-within_word g c = c.loop-round.invariant.within

pub overflow_shr-index : goal.overflow_shr-index
overflow_shr-index g c =
    (in_range_at c.loop-round.round c.args.setting.now.log_arities.now c.requires.range c.loop-round-test.true).1

pub collect-requires-clause-indices : goal.collect-requires-clause-indices
collect-requires-clause-indices g c =
    omega (arith, c.loop-round.invariant.indices_length, length-lists c.loop-round.group_indices_by_round)

pub collect-requires-clause-rows : goal.collect-requires-clause-rows
collect-requires-clause-rows g c =
    omega (arith, c.loop-round.invariant.rows_length, length-map c.loop-round.rows_by_round (λ round. nested round.items))

pub returns-clause-value : goal.returns-clause-value
returns-clause-value g c = value_reached _ _ _ _ _ _ c.loop-round.invariant c.loop-round-test.false

pub returns-clause-index : goal.returns-clause-index
returns-clause-index g c = index_reached _ _ _ _ _ _ c.loop-round.invariant c.loop-round-test.false

pub returns-clause-indices : goal.returns-clause-indices
returns-clause-indices g c = λ _. indices_reached _ _ _ _ _ _ c.loop-round.invariant c.loop-round-test.false

pub returns-clause-rows : goal.returns-clause-rows
returns-clause-rows g c = λ _. rows_reached _ _ _ _ _ _ c.loop-round.invariant c.loop-round-test.false

pub overflow_sub-link : goal.overflow_sub-link
overflow_sub-link g c =
    omega (arith, sum_by-drop_more (λ x. x) c.args.setting.now.log_arities.now c.loop-round.round 0 c.loop-round-test.true)

pub fold_opening-requires-clause-within_height : goal.fold_opening-requires-clause-within_height
fold_opening-requires-clause-within_height g c =
    omega (arith, sum_by-drop_more (λ x. x) c.args.setting.now.log_arities.now c.loop-round.round 0 c.loop-round-test.true)

-- where nothing is answered nothing is said of the answer
pub returns-in_err-collect-clause-index : goal.returns-in_err-collect-clause-index
returns-in_err-collect-clause-index g c =
    IfOk-from_err c.from_residual-in_err-collect.result _ c.from_residual-in_err-collect.ensures.0

pub returns-in_err-value-clause-index : goal.returns-in_err-value-clause-index
returns-in_err-value-clause-index g c =
    IfOk-from_err c.from_residual.result _ c.from_residual.ensures.0

pub returns-in_err-collect-clause-value : goal.returns-in_err-collect-clause-value
returns-in_err-collect-clause-value g c =
    IfOk-from_err c.from_residual-in_err-collect.result _ c.from_residual-in_err-collect.ensures.0

pub returns-in_err-value-clause-value : goal.returns-in_err-value-clause-value
returns-in_err-value-clause-value g c =
    IfOk-from_err c.from_residual.result _ c.from_residual.ensures.0

pub offset_bounds-setting-round-in-loop-round : goal.offset_bounds-setting-round-in-loop-round
offset_bounds-setting-round-in-loop-round g c =
    search (rules, lt_of_lt_of_le c.loop-round-test.true c.requires.betas)
