use Rattle.std.proofs.Common.{◌≡◌, ◌<◌, ◌≤◌, map, length, get_or, subst}
use Rattle.std.proofs.lemmas.Result.{IfOk-from_err}
use Rattle.p3_pcs.specs.Claims.{claim}
use Rattle.fri_numbers.specs.Claims.{batch_by, batch_listed}
use Rattle.fri_numbers.proofs.Images.{of_image_more, image_all}
use Rattle.fri_numbers.proofs.claims.claims_out.Goals as goal

pub loop-opening-preserved : goal.loop-opening-preserved
loop-opening-preserved g c =
    let whole = c.deref-opening-items.ensures.value in
    of_image_more (batch_by g.N.Numbered.numbers_of g.N.Numbered.shift_of g.N.Numbered.log_size_of) claim batch_listed
    c.loop-opening.batches.items c.push.new.self.items c.args.claims.now.items
    c.loop-opening.opening-index c.in_ok-batch_claims.field-0 c.opening-item.result
    (subst (λ ys. c.loop-opening.opening-index < length ys) whole c.loop-opening-test.true)
    (subst (λ ys. c.opening-item.result ≡ get_or ys c.loop-opening.opening-index c.opening-item.result)
    whole c.opening-item.is)
    c.in_ok-push.ensures.items c.in_ok-batch_claims.ensures c.loop-opening.invariant

pub returns : goal.returns
returns g c =
    image_all (λ ys. map (batch_by g.N.Numbered.numbers_of g.N.Numbered.shift_of g.N.Numbered.log_size_of) (map claim ys))
    c.args.claims.now.items c.loop-opening.opening-index
    (subst (λ ys. length ys ≤ c.loop-opening.opening-index) c.deref-opening-items.ensures.value
    c.loop-opening-test.false)
    c.loop-opening.invariant

-- where nothing is answered nothing is said of the answer
pub returns-in_err-batches : goal.returns-in_err-batches
returns-in_err-batches g c = IfOk-from_err c.from_residual.result _ c.from_residual.ensures.0

pub returns-in_err-batch_claims : goal.returns-in_err-batch_claims
returns-in_err-batch_claims g c = IfOk-from_err c.from_residual-in_err-batch_claims.result _ c.from_residual-in_err-batch_claims.ensures.0

pub returns-in_err-push : goal.returns-in_err-push
returns-in_err-push g c = IfOk-from_err c.from_residual-in_err-push.result _ c.from_residual-in_err-push.ensures.0
