use Rattle.std.proofs.Common.{◌≡◌, ◌<◌, ◌≤◌, length, map, get_or, subst}
use Rattle.std.proofs.lemmas.Result.{IfOk-from_err}
use Rattle.p3_pcs.specs.Claims.{point_claim}
use Rattle.fri_numbers.specs.Claims.{point_by, point_listed}
use Rattle.fri_numbers.proofs.Images.{of_image_more, image_all, same_numbers}
use Rattle.fri_numbers.proofs.claims.matrix_claims.Goals as goal

pub loop-point-preserved : goal.loop-point-preserved
loop-point-preserved g c =
    let whole = c.deref-point-items.ensures.value in
    of_image_more (point_by g.N.Numbered.numbers_of) point_claim point_listed c.loop-point.points.items
    c.push.new.self.items c.args.opening.now.points.items c.loop-point.point-index
    c.in_ok-point_claims.field-0 c.point-item.result
    (subst (λ ys. c.loop-point.point-index < length ys) whole c.loop-point-test.true)
    (subst (λ ys. c.point-item.result ≡ get_or ys c.loop-point.point-index c.point-item.result) whole
    c.point-item.is)
    c.in_ok-push.ensures.items c.in_ok-point_claims.ensures c.loop-point.invariant

pub returns : goal.returns
returns g c =
    same_numbers c.domain_numbers.ensures.shift c.domain_numbers.ensures.log_size
    (image_all (λ ys. map (point_by g.N.Numbered.numbers_of) (map point_claim ys)) c.args.opening.now.points.items
    c.loop-point.point-index
    (subst (λ ys. length ys ≤ c.loop-point.point-index) c.deref-point-items.ensures.value
    c.loop-point-test.false)
    c.loop-point.invariant)

-- where nothing is answered nothing is said of the answer
pub returns-in_err-points : goal.returns-in_err-points
returns-in_err-points g c = IfOk-from_err c.from_residual.result _ c.from_residual.ensures.0

pub returns-in_err-point_claims : goal.returns-in_err-point_claims
returns-in_err-point_claims g c = IfOk-from_err c.from_residual-in_err-point_claims.result _ c.from_residual-in_err-point_claims.ensures.0

pub returns-in_err-push : goal.returns-in_err-push
returns-in_err-push g c = IfOk-from_err c.from_residual-in_err-push.result _ c.from_residual-in_err-push.ensures.0
