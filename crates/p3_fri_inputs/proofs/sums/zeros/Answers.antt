use Rattle.std.proofs.Common.{◌≡◌, ◌++◌, ◌∷◌, ◌∙◌, ℕ, [], length, sym, ap, ap₂, arith}
use Rattle.algebra.proofs.Lists.{tabulate-next, length-tabulate}
use Rattle.std.proofs.lemmas.Result.{IfOk-from_err}
use Rattle.p3_fri_inputs.proofs.sums.zeros.Goals as goal

pub loop-preserved : goal.loop-preserved
loop-preserved g c =
    let zero = λ (h : ℕ). g.EF.Field.ops.zero in
    c.in_ok-push.ensures.items
    ∙ ap₂ (λ xs z. xs ++ z ∷ []) c.loop.invariant (c.ZERO.ensures ∙ g.met.EF.Field.zero_law)
    ∙ sym (tabulate-next c.loop.counter zero)

pub returns-clause-count : goal.returns-clause-count
returns-clause-count g c =
    let zero = λ (h : ℕ). g.EF.Field.ops.zero in
    let last : c.loop.counter ≡ c.args.count = omega arith in
    c.loop.zeros.ok.0 ∙ ap length c.loop.invariant ∙ length-tabulate c.loop.counter zero ∙ last

-- where nothing is answered nothing is said of the answer
pub returns-in_err-push-clause-count : goal.returns-in_err-push-clause-count
returns-in_err-push-clause-count g c =
    IfOk-from_err c.from_residual-in_err-push.result _ c.from_residual-in_err-push.ensures.0

pub returns-in_err-push-clause-items : goal.returns-in_err-push-clause-items
returns-in_err-push-clause-items g c =
    IfOk-from_err c.from_residual-in_err-push.result _ c.from_residual-in_err-push.ensures.0
