use Rattle.std.proofs.Common.{[], map, ap, ◌∙◌}
use Rattle.std.proofs.lemmas.List.{map-append}
use Rattle.p3_pcs.specs.declared.requests.OpeningRequest.{OpeningRequest}
use Rattle.p3_fri_prover.specs.declared.prover.openings.ProverDataWithOpeningPoints as opened
use Rattle.algebra.proofs.Growing.{mapped_next, mapped_end}
use Rattle.p3_fri_hiding_openings.specs.declared.data.HidingFriPcsProverData.{HidingFriPcsProverData}
use Rattle.p3_fri_hiding_openings.proofs.gather.hidden_data.Goals as goal

pub loop-request-preserved : goal.loop-request-preserved
loop-request-preserved g c =
    let view = λ (d : opened.ProverDataWithOpeningPoints g.row.EF.Denot g.row.T.Denot).
    d.prover_data.now in
    let old = c.loop-request.found.items in
    mapped_next
    (λ (r : OpeningRequest (HidingFriPcsProverData g.row.T.Denot) g.row.EF.Denot).
    r.prover_data.now.inner)
    c.args.requests.now c.loop-request.request-index c.request-item.result [] (map view old)
    (map view c.push.new.self.items) c.loop-request-test.true c.request-item.is
    c.loop-request.invariant
    (ap (λ ds. map view ds) c.in_ok-push.ensures.items ∙ map-append view old _)

pub returns : goal.returns
returns g c =
    mapped_end
    (λ (r : OpeningRequest (HidingFriPcsProverData g.row.T.Denot) g.row.EF.Denot).
    r.prover_data.now.inner)
    c.args.requests.now c.loop-request.request-index [] (map (λ d. d.prover_data.now)
    c.loop-request.found.items) c.loop-request-test.false c.loop-request.invariant
