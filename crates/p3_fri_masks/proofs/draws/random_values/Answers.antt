use Rattle.std.proofs.Common.{[], sym, subst}
use Rattle.p3_matrix.proofs.Words.{AreDrawn, none_drawn, one_more_drawn}
use Rattle.std.proofs.lemmas.Result.{IfOk-from_err}
use Rattle.p3_fri_masks.proofs.draws.random_values.Goals as goal

pub loop-init : goal.loop-init
loop-init g c =
    let f = g.T.SampleField.from_word in
    let s = g.R.Rng.stream c.args.rng.now in
    subst (λ xs. AreDrawn f s [] 0 xs s) (sym c.in_ok-values.ensures.items) (none_drawn f s [])

pub loop-preserved : goal.loop-preserved
loop-preserved g c =
    one_more_drawn g.T.SampleField.from_word _ _ _ _ _ _ _ _ _ c.loop.invariant
    c.next_u64-word.ensures c.from_word.ensures c.in_ok-push.ensures.items

-- where nothing is answered nothing is said of the answer
pub returns-in_err-push-clause-past : goal.returns-in_err-push-clause-past
returns-in_err-push-clause-past g c =
    IfOk-from_err c.from_residual-in_err-push.result _ c.from_residual-in_err-push.ensures.0

pub returns-in_err-push-clause-values : goal.returns-in_err-push-clause-values
returns-in_err-push-clause-values g c =
    IfOk-from_err c.from_residual-in_err-push.result _ c.from_residual-in_err-push.ensures.0

pub returns-in_err-values-clause-past : goal.returns-in_err-values-clause-past
returns-in_err-values-clause-past g c =
    IfOk-from_err c.from_residual.result _ c.from_residual.ensures.0

pub returns-in_err-values-clause-values : goal.returns-in_err-values-clause-values
returns-in_err-values-clause-values g c =
    IfOk-from_err c.from_residual.result _ c.from_residual.ensures.0
