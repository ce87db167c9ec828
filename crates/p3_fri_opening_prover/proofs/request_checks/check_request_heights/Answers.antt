use Rattle.std.proofs.Common.{All, sym, subst}
use Rattle.p3_pcs.specs.Requests.{request}
use Rattle.p3_fri_relation.specs.Views.{parameters_of}
use Rattle.p3_fri_openings.specs.Rounds.{HasCoset}
use Rattle.p3_fri_openings.specs.Refusals.{AreTallEnough, RoundHeightRefusal}
use Rattle.p3_fri_opening_prover.proofs.Transported.{mapped_at, mapped_more, mapped_first}
use Rattle.p3_fri_opening_prover.proofs.Transported.{mapped_end}
use Rattle.p3_fri_opening_prover.proofs.request_checks.check_request_heights.Goals as goal

pub check_round_heights-requires : goal.check_round_heights-requires
check_round_heights-requires g c =
    let n = g.F.TwoAdicField.TWO_ADICITY in
    record {
      cosets = subst (λ ms. All (HasCoset n) ms) (sym c.get_matrices-matrices.ensures)
          (mapped_at request c.args.requests.now c.loop-request.request-index
          c.request-item.result c.loop-request-test.true c.request-item.is
          (λ r. All (HasCoset n) (g.InputMmcs.Mmcs.committed r.datum)) c.requires.cosets);
    }

pub returns-in-Err : goal.returns-in-Err
returns-in-Err g c =
    let committed = g.InputMmcs.Mmcs.committed in
    let p = parameters_of c.args.params.now in
    record {
      round = c.loop-request.request-index;
      first = mapped_first request c.args.requests.now c.loop-request.request-index
          c.request-item.result c.loop-request-test.true c.request-item.is
          (λ r. AreTallEnough p (committed r.datum))
          (λ r. RoundHeightRefusal p c.in-Err.refusal (committed r.datum)) c.loop-request.invariant
          (subst (λ ms. RoundHeightRefusal p c.in-Err.refusal ms) c.get_matrices-matrices.ensures
          c.in-Err.ensures);
    }

pub loop-request-preserved : goal.loop-request-preserved
loop-request-preserved g c =
    let p = parameters_of c.args.params.now in
    mapped_more request c.args.requests.now c.loop-request.request-index
    c.request-item.result c.loop-request-test.true c.request-item.is
    (λ r. AreTallEnough p (g.InputMmcs.Mmcs.committed r.datum)) c.loop-request.invariant
    (subst (λ ms. AreTallEnough p ms) c.get_matrices-matrices.ensures c.in_default.ensures)

pub returns : goal.returns
returns g c =
    mapped_end request c.args.requests.now c.loop-request.request-index
    (λ r. AreTallEnough (parameters_of c.args.params.now) (g.InputMmcs.Mmcs.committed r.datum))
    c.loop-request-test.false c.loop-request.invariant
