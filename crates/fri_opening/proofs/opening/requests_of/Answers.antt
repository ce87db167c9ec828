use Rattle.std.proofs.Common.{inl, inr, map, ap, sym, ◌∙◌}
use Rattle.std.specs.Iterator.Adapters.{zip_second}
use Rattle.std.proofs.lemmas.Result.{IfOk-from_err}
use Rattle.algebra.specs.Nested.{nested}
use Rattle.p3_pcs.specs.Requests.{request}
use Rattle.fri_opening.specs.Openings.{request_for}
use Rattle.fri_commitments.proofs.Zipped.{none_left, zipped_end}
use Rattle.fri_opening.proofs.opening.requests_of.Goals as goal

pub returns : goal.returns
returns g c =
    zipped_end (λ c zs. request_for c.data zs) (map request c.loop-committed.requests.items) _ _ _
    c.loop-committed.invariant
    (elim c.in-None.ensures.steps [
      | inl first ↦ inl (none_left _ first.1.0)
      | inr second ↦
          inr (ap nested (none_left (zip_second c.loop-committed.committed-iterator).rest.items
          (sym (zip_second c.loop-committed.committed-iterator).rest.ok.0 ∙ second.1.0)))
    ])

-- where nothing is answered nothing is said of the answer
pub returns-in_err-requests : goal.returns-in_err-requests
returns-in_err-requests g c = IfOk-from_err c.from_residual.result _ c.from_residual.ensures.0

pub returns-in_err-push : goal.returns-in_err-push
returns-in_err-push g c = IfOk-from_err c.from_residual-in_err-push.result _ c.from_residual-in_err-push.ensures.0
