use Rattle.std.proofs.Common.{◌≡◌, ◌+◌, ◌++◌, ◌∷◌, [], take, sym, ap, ◌∙◌, arith}
use Rattle.std.proofs.lemmas.List.{take_more, take_all}
use Rattle.algebra.specs.Nested.{nested}
use Rattle.p3_fri_prover.specs.Openings.{OpensBatch}
use Rattle.algebra.proofs.Lists.{all_zip-push}
use Rattle.std.proofs.lemmas.Result.{IfOk-from_err}
use Rattle.p3_fri_prover.proofs.prover.openings.open_inputs.Goals as goal

pub loop-datum-preserved : goal.loop-datum-preserved
loop-datum-preserved g c =
    let xs = c.args.data_with_points.now in
    let i = c.loop-datum.datum-index in
    let item = c.datum-item.result in
    let taken : take (i + 1) xs ≡ take i xs ++ item ∷ [] =
    take_more xs i item (omega arith) ∙ ap (λ x. take i xs ++ x ∷ []) (sym c.datum-item.is) in
    rw (taken, c.in_ok-push.ensures.items)
    (all_zip-push (λ datum o. OpensBatch (g.M.Mmcs.opens c.args.mmcs.now) c.args.log_max_height
    c.args.positions.now (g.M.Mmcs.committed datum.prover_data.now)
    (g.M.Mmcs.commitment_of datum.prover_data.now)
    (record { rows = nested o.opened_values.items; path = o.opening_proof }))
    (take i xs) c.loop-datum.openings.items item c.in_ok-open_input.field-0
    c.loop-datum.invariant c.in_ok-open_input.ensures)

pub returns : goal.returns
returns g c =
    let xs = c.args.data_with_points.now in
    let all : take c.loop-datum.datum-index xs ≡ xs = take_all c.loop-datum.datum-index xs (omega arith) in
    rw all at c.loop-datum.invariant

-- where nothing is answered nothing is said of the answer
pub returns-in_err-push : goal.returns-in_err-push
returns-in_err-push g c =
    IfOk-from_err c.from_residual-in_err-push.result _ c.from_residual-in_err-push.ensures.0
