use Rattle.std.proofs.Common.{map, ap, ◌∙◌}
use Rattle.p3_pcs.specs.Claims.{opened_values}
use Rattle.p3_pcs.specs.Requests.{request}
use Rattle.p3_uni_stark_opening.proofs.Requested.{place_is, can_open, honest_asked, opened_asked}
use Rattle.p3_uni_stark_opening.proofs.Requested.{all_domains, fit_asked, accepted_asked, state_asked}
use Rattle.p3_uni_stark_opening.proofs.opening.open_columns.Goals as goal

pub open_with_preprocessing-requires-clause-shape : goal.open_with_preprocessing-requires-clause-shape
open_with_preprocessing-requires-clause-shape g c =
    let r = g.P.Pcs.rules c.args.scheme.now in
    let t = g.P.UnivariateStarkPcs.stark_rules c.args.scheme.now in
    let all = c.args.committed.now in
    can_open r t c.args.num_chunks c.requires.committed.0 c.args.points.0 c.args.points.1 all
    c.requires.committed.1 (map request c.as_mut_slice-asked.result.now)
    (ap (λ rs. map request rs) c.as_mut_slice-asked.ensures.value
    ∙ c.in_ok-requests.ensures c.args.points.0 c.args.points.1
    (c.as_slice-both_points.ensures.value ∙ c.in_ok-both.ensures.both)
    (c.as_slice-one_point.ensures.value ∙ c.in_ok-both.ensures.one))
    c.place_if-index.result
    (place_is r.commitment_of all.preprocessed c.place_if-index.result
    c.is_some-preprocessed.result c.place_if-index.ensures c.is_some-preprocessed.ensures)
    (g.met.P.UnivariateStarkPcs.stark_law c.args.scheme.now)

pub returns-in-Ok-clause-values : goal.returns-in-Ok-clause-values
returns-in-Ok-clause-values g c =
    let r = g.P.Pcs.rules c.args.scheme.now in
    let t = g.P.UnivariateStarkPcs.stark_rules c.args.scheme.now in
    let all = c.args.committed.now in
    let size = c.requires.committed.0 in
    let are = c.requires.committed.1 in
    let z = c.args.points.0 in
    let y = c.args.points.1 in
    let is = ap (λ rs. map request rs) c.as_mut_slice-asked.ensures.value
    ∙ c.in_ok-requests.ensures z y
    (c.as_slice-both_points.ensures.value ∙ c.in_ok-both.ensures.both)
    (c.as_slice-one_point.ensures.value ∙ c.in_ok-both.ensures.one) in
    let named = place_is r.commitment_of all.preprocessed c.place_if-index.result
    c.is_some-preprocessed.result c.place_if-index.ensures c.is_some-preprocessed.ensures in
    let asked = map request c.as_mut_slice-asked.result.now in
    let index = c.place_if-index.result in
    opened_asked r t c.args.num_chunks size z y all are asked is index named
    (opened_values c.in-Ok.values.items) (opened_values c.as_slice.result.now)
    c.in_ok-opened-in-Ok.opened c.is_some-preprocessed.result c.is_some-random.result
    c.is_some-preprocessed.ensures c.is_some-random.ensures
    (c.in-Ok.ensures.values
    (honest_asked r t c.args.num_chunks size z y all are asked is index named))
    (ap opened_values c.as_slice.ensures.value) c.in_ok-opened-in-Ok.ensures

pub returns-in-Ok-clause-accepted : goal.returns-in-Ok-clause-accepted
returns-in-Ok-clause-accepted g c size are domain fits =
    let r = g.P.Pcs.rules c.args.scheme.now in
    let t = g.P.UnivariateStarkPcs.stark_rules c.args.scheme.now in
    let all = c.args.committed.now in
    let z = c.args.points.0 in
    let y = c.args.points.1 in
    let is = ap (λ rs. map request rs) c.as_mut_slice-asked.ensures.value
    ∙ c.in_ok-requests.ensures z y
    (c.as_slice-both_points.ensures.value ∙ c.in_ok-both.ensures.both)
    (c.as_slice-one_point.ensures.value ∙ c.in_ok-both.ensures.one) in
    let named = place_is r.commitment_of all.preprocessed c.place_if-index.result
    c.is_some-preprocessed.result c.place_if-index.ensures c.is_some-preprocessed.ensures in
    let asked = map request c.as_mut_slice-asked.result.now in
    let index = c.place_if-index.result in
    let n = c.args.num_chunks in
    let honest = honest_asked r t n size z y all are asked is index named in
    let opened = opened_asked r t n size z y all are asked is index named
    (opened_values c.in-Ok.values.items) (opened_values c.as_slice.result.now)
    c.in_ok-opened-in-Ok.opened c.is_some-preprocessed.result c.is_some-random.result
    c.is_some-preprocessed.ensures c.is_some-random.ensures (c.in-Ok.ensures.values honest)
    (ap opened_values c.as_slice.ensures.value) c.in_ok-opened-in-Ok.ensures in
    accepted_asked r t n size z y all are asked is index named domain fits
    c.args.challenger.now c.in_ok-opened-in-Ok.opened opened c.in-Ok.proof
    (c.in-Ok.ensures.accepted honest
    (all_domains r t n size z y all are asked is index named domain fits)
    (fit_asked r t n size z y all are asked is index named domain fits))

pub returns-in-Ok-clause-state : goal.returns-in-Ok-clause-state
returns-in-Ok-clause-state g c size are domain fits =
    let r = g.P.Pcs.rules c.args.scheme.now in
    let t = g.P.UnivariateStarkPcs.stark_rules c.args.scheme.now in
    let all = c.args.committed.now in
    let z = c.args.points.0 in
    let y = c.args.points.1 in
    let is = ap (λ rs. map request rs) c.as_mut_slice-asked.ensures.value
    ∙ c.in_ok-requests.ensures z y
    (c.as_slice-both_points.ensures.value ∙ c.in_ok-both.ensures.both)
    (c.as_slice-one_point.ensures.value ∙ c.in_ok-both.ensures.one) in
    let named = place_is r.commitment_of all.preprocessed c.place_if-index.result
    c.is_some-preprocessed.result c.place_if-index.ensures c.is_some-preprocessed.ensures in
    let asked = map request c.as_mut_slice-asked.result.now in
    let index = c.place_if-index.result in
    let n = c.args.num_chunks in
    let honest = honest_asked r t n size z y all are asked is index named in
    let opened = opened_asked r t n size z y all are asked is index named
    (opened_values c.in-Ok.values.items) (opened_values c.as_slice.result.now)
    c.in_ok-opened-in-Ok.opened c.is_some-preprocessed.result c.is_some-random.result
    c.is_some-preprocessed.ensures c.is_some-random.ensures (c.in-Ok.ensures.values honest)
    (ap opened_values c.as_slice.ensures.value) c.in_ok-opened-in-Ok.ensures in
    state_asked r t n size z y all are asked is index named domain fits
    c.args.challenger.now c.in_ok-opened-in-Ok.opened opened c.in-Ok.proof
    c.open_with_preprocessing.new.challenger
    (c.in-Ok.ensures.state honest
    (all_domains r t n size z y all are asked is index named domain fits)
    (fit_asked r t n size z y all are asked is index named domain fits))
