use Rattle.std.proofs.Common.{◌≡◌, All, length, ap₂, subst}
use Rattle.std.proofs.lemmas.Result.{err_from_is_err_and}
use Rattle.algebra.specs.Nested.{lists}
use Rattle.p3_pcs.specs.Claims.{zip_with}
use Rattle.p3_fri_relation.specs.Views.{parameters_of}
use Rattle.p3_fri_openings.specs.Requests.{round_request, matrices_request}
use Rattle.p3_fri_openings.specs.Rounds.{HasCoset, IsRound, ask}
use Rattle.p3_fri_opening_prover.specs.Refusals.{asked_of}
use Rattle.p3_fri_opening_prover.proofs.Asked.{round_here}
use Rattle.p3_fri_hiding_openings.specs.Requests.{inner_request}
use Rattle.p3_fri_hiding_openings.specs.Opening.{CanHide, RoundRefusal}
use Rattle.p3_fri_hiding_openings.proofs.Inside.{inside_at, inside_more, inside_first, inside_end}
use Rattle.p3_fri_hiding_openings.proofs.request_checks.check_matrices.Given.{Over}
use Rattle.p3_fri_hiding_openings.proofs.request_checks.check_matrices.Invariants.{fields_of}
use Rattle.p3_fri_hiding_openings.proofs.request_checks.check_matrices.Goals.{After-deref}
use Rattle.p3_fri_hiding_openings.proofs.request_checks.check_matrices.Goals as goal

-- the round that is made is the request's
same : (g : Over) (c : After-deref g)
    → round_request (record { matrices = c.get_matrices.result; points = c.deref.result })
    ≡ matrices_request g.InputMmcs.Mmcs.committed (inner_request c.request-item.result)
same g c =
    ap₂ (λ ms zs. record { datum = ms; points = lists zs }) c.get_matrices.ensures
    c.deref.ensures.value

-- and may be opened
is_round : (g : Over) (c : After-deref g) → IsRound g.F.TwoAdicField.TWO_ADICITY
    (record { matrices = c.get_matrices.result; points = c.deref.result })
is_round g c =
    let committed = g.InputMmcs.Mmcs.committed in
    let r = c.request-item.result in
    let requests = c.args.requests.now in
    round_here g.F.TwoAdicField.TWO_ADICITY committed
    (record { matrices = c.get_matrices.result; points = c.deref.result }) (inner_request r)
    (same g c)
    (inside_at requests c.loop-request.request-index r c.loop-request-test.true c.request-item.is
    (λ r. length r.points ≡ length (committed r.datum)) c.requires.points)
    (inside_at requests c.loop-request.request-index r c.loop-request-test.true c.request-item.is
    (λ r. All (HasCoset g.F.TwoAdicField.TWO_ADICITY) (committed r.datum)) c.requires.cosets)

pub check_round-requires-clause-points : goal.check_round-requires-clause-points
check_round-requires-clause-points g c =
    (is_round g (goal.at.check_round-requires-clause-points g c).After-deref).lists_of_points

pub check_round-requires-clause-cosets : goal.check_round-requires-clause-cosets
check_round-requires-clause-cosets g c =
    (is_round g (goal.at.check_round-requires-clause-cosets g c).After-deref).cosets

pub returns-in_err-check_round : goal.returns-in_err-check_round
returns-in_err-check_round g c =
    let p = parameters_of c.args.params.now in
    let n = c.args.num_random_codewords in
    let committed = g.InputMmcs.Mmcs.committed in
    let e = c.in_err-check_round.field-0.0 in
    let made = err_from_is_err_and c.from_residual.result c.from_residual.ensures.1 in
    rw (made.1, made.2) (record {
      round = c.loop-request.request-index;
      first = inside_first c.args.requests.now c.loop-request.request-index c.request-item.result
          c.loop-request-test.true c.request-item.is
          (λ q. All (CanHide (fields_of g) p n) (asked_of committed q))
          (λ q. RoundRefusal (fields_of g) p n e (asked_of committed q)) c.loop-request.invariant
          (subst (λ v. RoundRefusal (fields_of g) p n e (zip_with ask v.datum v.points))
          (same g (goal.at.returns-in_err-check_round g c).After-deref)
          c.in_err-check_round.ensures);
    })

pub loop-request-preserved : goal.loop-request-preserved
loop-request-preserved g c =
    let p = parameters_of c.args.params.now in
    let n = c.args.num_random_codewords in
    inside_more c.args.requests.now c.loop-request.request-index c.request-item.result
    c.loop-request-test.true c.request-item.is
    (λ q. All (CanHide (fields_of g) p n) (asked_of g.InputMmcs.Mmcs.committed q))
    c.loop-request.invariant
    (subst (λ v. All (CanHide (fields_of g) p n) (zip_with ask v.datum v.points))
    (same g (goal.at.loop-request-preserved g c).After-deref) c.in_ok-check_round.ensures)

pub returns : goal.returns
returns g c =
    inside_end c.args.requests.now c.loop-request.request-index
    (λ q. All (CanHide (fields_of g) (parameters_of c.args.params.now)
    c.args.num_random_codewords) (asked_of g.InputMmcs.Mmcs.committed q))
    c.loop-request-test.false c.loop-request.invariant
