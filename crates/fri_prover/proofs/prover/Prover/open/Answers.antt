use Rattle.std.proofs.Common.{map, Ok, sym, ap, ◌∙◌}
use Rattle.std.proofs.lemmas.Result.{IfOk-weaker}
use Rattle.fri_prover.proofs.prover.Prover.open.Goals as goal

pub returns-clause-accepted : goal.returns-clause-accepted
returns-clause-accepted g c = λ batches has.
    IfOk-weaker c.open_all.result _ _ (λ _ p. p.accepted)
    (c.open_all.ensures.opened batches (rw (sym c.as_mut_slice.ensures.value) at has))

pub returns-clause-opened : goal.returns-clause-opened
returns-clause-opened g c = λ batches has.
    IfOk-weaker c.open_all.result _ _ (λ _ p. p.opened)
    (c.open_all.ensures.opened batches (rw (sym c.as_mut_slice.ensures.value) at has))

pub returns-clause-well_formed : goal.returns-clause-well_formed
returns-clause-well_formed g c = λ batches has.
    IfOk-weaker c.open_all.result _ _ (λ _ p. p.asks)
    (c.open_all.ensures.opened batches (rw (sym c.as_mut_slice.ensures.value) at has))

pub returns-clause-commitments : goal.returns-clause-commitments
returns-clause-commitments g c = λ batches has.
    IfOk-weaker c.open_all.result _ _
    (λ _ p. p.commitments
    ∙ ap (λ cs. map (λ k. Ok k) (map (λ c. c.commitment) cs)) c.as_mut_slice.ensures.value)
    (c.open_all.ensures.opened batches (rw (sym c.as_mut_slice.ensures.value) at has))
