use Rattle.std.proofs.lemmas.Result.{IfOk-from_err}
use Rattle.std.proofs.Common.{map, sym, subst, ap, ◌∙◌}
use Rattle.std.proofs.lemmas.Result.{IfOk-weaker, IfErr-weaker}
use Rattle.algebra.proofs.Lists.{map-map}
use Rattle.p3_pcs.specs.Requests.{request}
use Rattle.p3_pcs.specs.Scheme.{AreHonestIn, FitRequests, claims_asked}
use Rattle.fri_numbers.proofs.Failed.{request_weaker, request_wants}
use Rattle.fri_opening.proofs.opening.open_committed.Goals as goal

pub open_requests-requires-clause-shape : goal.open_requests-requires-clause-shape
open_requests-requires-clause-shape g c =
    subst (λ qs. (g.P.UnivariateStarkPcs.stark_rules c.args.scheme.now).CanOpenAt c.args.preprocessing qs)
    (sym (ap (λ rs. map request rs) c.as_mut_slice.ensures.value ∙ c.in_ok-requests.ensures)) c.requires.shape

pub returns-clause-claims : goal.returns-clause-claims
returns-clause-claims g c =
    let r = g.P.Pcs.rules c.args.scheme.now in
    let is = ap (λ rs. map request rs) c.as_mut_slice.ensures.value ∙ c.in_ok-requests.ensures in
    IfOk-weaker c.open_requests.result _ _
    (λ o e. e ∙ ap (λ qs. claims_asked r (map (λ k. k.domains.items) c.args.known.now) qs) is)
    (c.open_requests.ensures.claims
    (subst (λ qs. AreHonestIn r qs) (sym is) c.requires.honest)
    (c.requires.commitments ∙ ap (λ qs. map (λ q. r.commitment_of q.datum) qs) (sym is)
    ∙ map-map (λ q. r.commitment_of q.datum) request c.as_mut_slice.result.now))

pub returns-clause-accepted : goal.returns-clause-accepted
returns-clause-accepted g c =
    let r = g.P.Pcs.rules c.args.scheme.now in
    let is = ap (λ rs. map request rs) c.as_mut_slice.ensures.value ∙ c.in_ok-requests.ensures in
    c.open_requests.ensures.accepted
    (subst (λ qs. AreHonestIn r qs) (sym is) c.requires.honest)
    (c.requires.commitments ∙ ap (λ qs. map (λ q. r.commitment_of q.datum) qs) (sym is)
    ∙ map-map (λ q. r.commitment_of q.datum) request c.as_mut_slice.result.now)
    (subst (λ qs. FitRequests r (map (λ k. k.domains.items) c.args.known.now) qs) (sym is) c.requires.domains)

pub returns-clause-state : goal.returns-clause-state
returns-clause-state g c =
    let r = g.P.Pcs.rules c.args.scheme.now in
    let is = ap (λ rs. map request rs) c.as_mut_slice.ensures.value ∙ c.in_ok-requests.ensures in
    c.open_requests.ensures.state
    (subst (λ qs. AreHonestIn r qs) (sym is) c.requires.honest)
    (c.requires.commitments ∙ ap (λ qs. map (λ q. r.commitment_of q.datum) qs) (sym is)
    ∙ map-map (λ q. r.commitment_of q.datum) request c.as_mut_slice.result.now)
    (subst (λ qs. FitRequests r (map (λ k. k.domains.items) c.args.known.now) qs) (sym is) c.requires.domains)

pub returns-clause-refused : goal.returns-clause-refused
returns-clause-refused g c =
    let is = ap (λ rs. map request rs) c.as_mut_slice.ensures.value ∙ c.in_ok-requests.ensures in
    IfErr-weaker c.open_requests.result _ _
    (request_weaker _ _ _ _ (λ never. never)
    (λ e h. (subst (λ qs. (g.P.Pcs.rules c.args.scheme.now).Refuses c.args.preprocessing c.args.challenger.now qs e) is h.0, h.1)))
    c.open_requests.ensures.refused

-- where nothing is answered nothing is said of the answer
pub returns-in_err-requests-clause-claims : goal.returns-in_err-requests-clause-claims
returns-in_err-requests-clause-claims g c = IfOk-from_err c.from_residual.result _ c.from_residual.ensures.0

pub returns-in_err-requests-clause-accepted : goal.returns-in_err-requests-clause-accepted
returns-in_err-requests-clause-accepted g c = IfOk-from_err c.from_residual.result _ c.from_residual.ensures.0

pub returns-in_err-requests-clause-state : goal.returns-in_err-requests-clause-state
returns-in_err-requests-clause-state g c = IfOk-from_err c.from_residual.result _ c.from_residual.ensures.0

pub returns-in_err-requests-clause-refused : goal.returns-in_err-requests-clause-refused
returns-in_err-requests-clause-refused g c = request_wants c.from_residual.result _ _ c.from_residual.ensures.1
