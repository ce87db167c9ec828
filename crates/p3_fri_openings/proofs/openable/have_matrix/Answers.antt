use Rattle.std.proofs.Common.{◌≡◌, [], length, sym, ap, ◌∙◌}
use Rattle.std.proofs.lemmas.List.{nil_from_length}
use Rattle.p3_fri_openings.proofs.First.{one_more, to_the_end}
use Rattle.p3_fri_openings.proofs.Passes.{passed, failed}
use Rattle.p3_fri_openings.proofs.OpenableRequests.{joined_of_some, joined_of_none}
use Rattle.p3_fri_openings.proofs.openable.have_matrix.Goals as goal

pub returns-then-get_matrices-ne0 : goal.returns-then-get_matrices-ne0
returns-then-get_matrices-ne0 g c =
    passed (joined_of_some (λ r. g.M.Mmcs.committed r.prover_data.now) c.args.requests.now
    c.loop-request.request-index c.request-item.result c.loop-request-test.true c.request-item.is
    (λ e. c.if-get_matrices-ne0.true (ap length c.get_matrices.ensures ∙ e)))

pub loop-request-preserved : goal.loop-request-preserved
loop-request-preserved g c =
    one_more (λ r. g.M.Mmcs.committed r.prover_data.now ≡ []) c.args.requests.now
    c.loop-request.request-index c.request-item.result c.loop-request-test.true c.request-item.is
    c.loop-request.invariant
    (sym c.get_matrices.ensures
    ∙ nil_from_length c.get_matrices.result.now c.if-get_matrices-ne0.false)

pub returns : goal.returns
returns g c =
    failed (λ some. some (joined_of_none (λ r. g.M.Mmcs.committed r.prover_data.now)
    c.args.requests.now (to_the_end (λ r. g.M.Mmcs.committed r.prover_data.now ≡ [])
    c.args.requests.now c.loop-request.request-index c.loop-request-test.false
    c.loop-request.invariant)))
