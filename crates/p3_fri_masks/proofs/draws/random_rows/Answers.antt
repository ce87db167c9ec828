use Rattle.std.proofs.Common.{[], ◌∷◌, ap, ◌∙◌}
use Rattle.std.proofs.lemmas.List.{map-append}
use Rattle.algebra.specs.Nested.{lists}
use Rattle.p3_fri_masks.proofs.RandomRows.{no_row_drawn, one_more_row}
use Rattle.std.proofs.lemmas.Result.{IfOk-from_err}
use Rattle.p3_fri_masks.proofs.draws.random_rows.Goals as goal

pub loop-init : goal.loop-init
loop-init g c =
    no_row_drawn g.T.SampleField.from_word _ _ _ (ap lists c.in_ok-rows.ensures.items)

pub loop-preserved : goal.loop-preserved
loop-preserved g c =
    one_more_row g.T.SampleField.from_word _ _ _ _ _ (lists c.loop.rows.items) _ _ c.loop.invariant
    c.in_ok-random_values.ensures.values c.in_ok-random_values.ensures.past
    (ap lists c.in_ok-push.ensures.items
    ∙ map-append (λ vector. vector.items) c.loop.rows.items (c.in_ok-random_values.field-0 ∷ []))

-- where nothing is answered nothing is said of the answer
pub returns-in_err-push-clause-past : goal.returns-in_err-push-clause-past
returns-in_err-push-clause-past g c =
    IfOk-from_err c.from_residual-in_err-push.result _ c.from_residual-in_err-push.ensures.0

pub returns-in_err-push-clause-rows : goal.returns-in_err-push-clause-rows
returns-in_err-push-clause-rows g c =
    IfOk-from_err c.from_residual-in_err-push.result _ c.from_residual-in_err-push.ensures.0

pub returns-in_err-random_values-clause-past : goal.returns-in_err-random_values-clause-past
returns-in_err-random_values-clause-past g c =
    IfOk-from_err c.from_residual-in_err-random_values.result _ c.from_residual-in_err-random_values.ensures.0

pub returns-in_err-random_values-clause-rows : goal.returns-in_err-random_values-clause-rows
returns-in_err-random_values-clause-rows g c =
    IfOk-from_err c.from_residual-in_err-random_values.result _ c.from_residual-in_err-random_values.ensures.0

pub returns-in_err-rows-clause-past : goal.returns-in_err-rows-clause-past
returns-in_err-rows-clause-past g c =
    IfOk-from_err c.from_residual.result _ c.from_residual.ensures.0

pub returns-in_err-rows-clause-rows : goal.returns-in_err-rows-clause-rows
returns-in_err-rows-clause-rows g c =
    IfOk-from_err c.from_residual.result _ c.from_residual.ensures.0
