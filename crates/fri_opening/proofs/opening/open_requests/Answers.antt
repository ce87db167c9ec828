use Rattle.std.proofs.lemmas.Result.{IfOk-from_err}
use Rattle.std.proofs.Common.{◌≡◌, map, refl, sym, subst, inl, inr}
use Rattle.p3_pcs.specs.Requests.{request}
use Rattle.p3_pcs.proofs.Honest.{claims_honest}
use Rattle.fri_numbers.proofs.Failed.{request_weaker, request_wants}
use Rattle.fri_opening.proofs.opening.open_requests.Goals as goal

pub returns-clause-claims : goal.returns-clause-claims
returns-clause-claims g c = λ honest commits.
    let r = g.P.Pcs.rules c.args.scheme.now in
    claims_honest r.commitment_of r.committed_polynomials r.after_opening
    c.args.known.now c.args.requests.now _ _ _ commits
    (c.in-Ok.ensures.opened (c.in-Ok.ensures.checked refl))
    (c.in-Ok.ensures.values honest)
    (rw c.as_slice.ensures.value at c.in_ok-claims.ensures)

pub returns-clause-accepted : goal.returns-clause-accepted
returns-clause-accepted g c = λ honest commits fit.
    let r = g.P.Pcs.rules c.args.scheme.now in
    let is = claims_honest r.commitment_of r.committed_polynomials r.after_opening
    c.args.known.now c.args.requests.now _ _ _ commits
    (c.in-Ok.ensures.opened (c.in-Ok.ensures.checked refl))
    (c.in-Ok.ensures.values honest)
    (rw c.as_slice.ensures.value at c.in_ok-claims.ensures) in
    subst (λ cs. r.Accepts c.args.preprocessing c.args.challenger.now cs c.in-Ok.opening.1) (sym is)
    (c.in-Ok.ensures.accepted honest _ fit)

pub returns-clause-state : goal.returns-clause-state
returns-clause-state g c = λ honest commits fit.
    let r = g.P.Pcs.rules c.args.scheme.now in
    let is = claims_honest r.commitment_of r.committed_polynomials r.after_opening
    c.args.known.now c.args.requests.now _ _ _ commits
    (c.in-Ok.ensures.opened (c.in-Ok.ensures.checked refl))
    (c.in-Ok.ensures.values honest)
    (rw c.as_slice.ensures.value at c.in_ok-claims.ensures) in
    subst (λ cs. c.open_with_preprocessing-opened.new.challenger
    ≡ r.last_state c.args.preprocessing c.args.challenger.now cs c.in-Ok.opening.1) (sym is)
    (c.in-Ok.ensures.state honest _ fit)

pub returns-in-Err-clause-refused : goal.returns-in-Err-clause-refused
returns-in-Err-clause-refused g c =
    request_weaker _ _ _ _ (λ never. never)
    (λ e h. (
      subst (λ x. (g.P.Pcs.rules c.args.scheme.now).Refuses c.args.preprocessing c.args.challenger.now
          (map request c.args.requests.now) x) (sym h.0)
          c.in-Err.ensures.refused,
      h.1,
    )) c.refusal.result c.refusal.ensures

pub returns-clause-lent : goal.returns-clause-lent
returns-clause-lent g c = λ cases. inl (c.in-Ok.ensures.opened (c.in-Ok.ensures.checked refl))

pub returns-in_err-claims-clause-lent : goal.returns-in_err-claims-clause-lent
returns-in_err-claims-clause-lent g c = λ cases. inl (c.in-Ok.ensures.opened (c.in-Ok.ensures.checked refl))

pub returns-in-Err-clause-lent : goal.returns-in-Err-clause-lent
returns-in-Err-clause-lent g c = λ cases.
    elim (cases c.in-Err.error c.in-Err.ensures.refused) [
      | inl passes ↦ inl (c.in-Err.ensures.opened passes)
      | inr leaves ↦ inr (c.in-Err.ensures.untouched leaves)
    ]

-- where nothing is answered nothing is said of the answer
pub returns-in_err-claims-clause-claims : goal.returns-in_err-claims-clause-claims
returns-in_err-claims-clause-claims g c = λ _ _. IfOk-from_err c.from_residual.result _ c.from_residual.ensures.0

pub returns-in_err-claims-clause-accepted : goal.returns-in_err-claims-clause-accepted
returns-in_err-claims-clause-accepted g c = λ _ _ _. IfOk-from_err c.from_residual.result _ c.from_residual.ensures.0

pub returns-in_err-claims-clause-state : goal.returns-in_err-claims-clause-state
returns-in_err-claims-clause-state g c = λ _ _ _. IfOk-from_err c.from_residual.result _ c.from_residual.ensures.0

pub returns-in_err-claims-clause-refused : goal.returns-in_err-claims-clause-refused
returns-in_err-claims-clause-refused g c = request_wants c.from_residual.result _ _ c.from_residual.ensures.1
