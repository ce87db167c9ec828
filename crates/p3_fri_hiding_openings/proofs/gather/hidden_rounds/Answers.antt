use Rattle.std.proofs.Common.{◌++◌, ◌∷◌, [], List, map, ap, ap₂, ◌∙◌}
use Rattle.std.proofs.lemmas.List.{map-append}
use Rattle.algebra.specs.Nested.{lists}
use Rattle.p3_matrix.specs.declared.dense.RowMajorMatrix.{RowMajorMatrix}
use Rattle.p3_pcs.specs.Requests.{Request}
use Rattle.p3_fri_openings.specs.Requests.{round_request, matrices_request}
use Rattle.algebra.proofs.Growing.{mapped_next, mapped_end}
use Rattle.p3_fri_hiding_openings.specs.Requests.{inner_request}
use Rattle.p3_fri_hiding_openings.proofs.gather.hidden_rounds.Goals as goal

pub loop-request-preserved : goal.loop-request-preserved
loop-request-preserved g c =
    let old = c.loop-request.rounds.items in
    let asked : List (RowMajorMatrix g.row.F.Denot) → List (List g.row.EF.Denot)
    → Request (List (RowMajorMatrix g.row.F.Denot)) g.row.EF.Denot =
    λ ms zs. record { datum = ms; points = zs } in
    mapped_next (λ r. matrices_request g.InputMmcs.Mmcs.committed (inner_request r))
    c.args.requests.now
    c.loop-request.request-index
    c.request-item.result [] (map round_request old) (map round_request c.push.new.self.items)
    c.loop-request-test.true c.request-item.is c.loop-request.invariant
    (ap (λ rs. map round_request rs) c.in_ok-push.ensures.items ∙ map-append round_request old _
    ∙ ap (λ r. map round_request old ++ r ∷ [])
    (ap₂ asked c.get_matrices.ensures (ap lists c.deref.ensures.value)))

pub returns : goal.returns
returns g c =
    mapped_end (λ r. matrices_request g.InputMmcs.Mmcs.committed (inner_request r))
    c.args.requests.now
    c.loop-request.request-index []
    (map round_request c.loop-request.rounds.items) c.loop-request-test.false
    c.loop-request.invariant
