use Rattle.std.proofs.Common.{◌≡◌, All, length, ap₂}
use Rattle.algebra.specs.Nested.{lists}
use Rattle.p3_fri_openings.specs.Requests.{round_request, matrices_request}
use Rattle.p3_fri_openings.specs.Rounds.{HasCoset}
use Rattle.p3_fri_openings.specs.Refusals.{HasPointsOff}
use Rattle.p3_fri_opening_prover.specs.Refusals.{asked_of}
use Rattle.p3_fri_opening_prover.proofs.Asked.{round_here, off_here}
use Rattle.p3_fri_hiding_openings.specs.Requests.{inner_request}
use Rattle.p3_fri_hiding_openings.proofs.Inside.{inside_at, inside_more, inside_on, inside_end}
use Rattle.p3_fri_hiding_openings.proofs.request_checks.check_points.Given.{Over}
use Rattle.p3_fri_hiding_openings.proofs.request_checks.check_points.Invariants.{fields_of}
use Rattle.p3_fri_hiding_openings.proofs.request_checks.check_points.Goals.{After-deref}
use Rattle.p3_fri_hiding_openings.proofs.request_checks.check_points.Goals as goal

-- the round that is made is the request's
same : (g : Over) (c : After-deref g)
    → round_request (record { matrices = c.get_matrices.result; points = c.deref.result })
    ≡ matrices_request g.InputMmcs.Mmcs.committed (inner_request c.index-requests-index.result)
same g c =
    ap₂ (λ ms zs. record { datum = ms; points = lists zs }) c.get_matrices.ensures
    c.deref.ensures.value

pub check_round_points-requires : goal.check_round_points-requires
check_round_points-requires g c =
    let committed = g.InputMmcs.Mmcs.committed in
    let r = c.index-requests-index.result in
    let requests = c.args.requests.now in
    record {
      round = round_here g.F.TwoAdicField.TWO_ADICITY committed
          (record { matrices = c.get_matrices.result; points = c.deref.result })
          (inner_request r) (same g (goal.at.check_round_points-requires g c).After-deref)
          (inside_at requests c.loop-index.index r c.loop-index-test.true c.index-requests-index.is
          (λ r. length r.points ≡ length (committed r.datum)) c.requires.points)
          (inside_at requests c.loop-index.index r c.loop-index-test.true c.index-requests-index.is
          (λ r. All (HasCoset g.F.TwoAdicField.TWO_ADICITY) (committed r.datum))
          c.requires.cosets);
    }

pub returns-in-Err : goal.returns-in-Err
returns-in-Err g c =
    inside_on c.args.requests.now c.loop-index.index c.index-requests-index.result
    c.loop-index-test.true c.index-requests-index.is (fields_of g) g.InputMmcs.Mmcs.committed
    (record { matrices = c.get_matrices.result; points = c.deref.result })
    (same g (goal.at.returns-in-Err g c).After-deref) c.loop-index.invariant c.in-Err.refusal
    c.in-Err.ensures

pub loop-index-preserved : goal.loop-index-preserved
loop-index-preserved g c =
    let committed = g.InputMmcs.Mmcs.committed in
    inside_more c.args.requests.now c.loop-index.index c.index-requests-index.result
    c.loop-index-test.true c.index-requests-index.is
    (λ r. All (HasPointsOff (fields_of g)) (asked_of committed r)) c.loop-index.invariant
    (off_here (fields_of g) committed
    (record { matrices = c.get_matrices.result; points = c.deref.result })
    (inner_request c.index-requests-index.result)
    (same g (goal.at.loop-index-preserved g c).After-deref) c.in_default.ensures)

pub returns : goal.returns
returns g c =
    inside_end c.args.requests.now c.loop-index.index
    (λ r. All (HasPointsOff (fields_of g)) (asked_of g.InputMmcs.Mmcs.committed r))
    c.loop-index-test.false c.loop-index.invariant
