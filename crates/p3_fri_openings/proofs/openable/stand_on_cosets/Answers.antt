use Rattle.std.proofs.Common.{All, sym, subst}
use Rattle.p3_fri_openings.specs.Rounds.{HasCoset}
use Rattle.p3_fri_openings.proofs.First.{one_more, to_the_end, at_item}
use Rattle.p3_fri_openings.proofs.Passes.{passed, failed, not_tested}
use Rattle.p3_fri_openings.proofs.openable.stand_on_cosets.Goals as goal

pub returns-then-not-have_cosets : goal.returns-then-not-have_cosets
returns-then-not-have_cosets g c = failed (λ all.
    not_tested c.have_cosets.result c.have_cosets.ensures c.if-not-have_cosets.true
    (subst (λ ms. All (HasCoset g.F.TwoAdicField.TWO_ADICITY) ms) (sym c.get_matrices.ensures)
    (at_item (λ r. All (HasCoset g.F.TwoAdicField.TWO_ADICITY)
    (g.M.Mmcs.committed r.prover_data.now)) c.args.requests.now c.loop-request.request-index
    c.request-item.result c.loop-request-test.true c.request-item.is all)))

pub loop-request-preserved : goal.loop-request-preserved
loop-request-preserved g c =
    one_more (λ r. All (HasCoset g.F.TwoAdicField.TWO_ADICITY)
    (g.M.Mmcs.committed r.prover_data.now))
    c.args.requests.now c.loop-request.request-index c.request-item.result c.loop-request-test.true
    c.request-item.is c.loop-request.invariant
    (subst (λ ms. All (HasCoset g.F.TwoAdicField.TWO_ADICITY) ms) c.get_matrices.ensures
    (c.have_cosets.ensures.0 c.if-not-have_cosets.false))

pub returns : goal.returns
returns g c =
    passed (to_the_end (λ r. All (HasCoset g.F.TwoAdicField.TWO_ADICITY)
    (g.M.Mmcs.committed r.prover_data.now))
    c.args.requests.now c.loop-request.request-index c.loop-request-test.false
    c.loop-request.invariant)
