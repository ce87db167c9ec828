use Rattle.std.proofs.Common.{◌≡◌, ◌<◌, ◌≤◌, All, map, length, get_or, subst, sym}
use Rattle.std.proofs.lemmas.Result.{IfOk-from_err}
use Rattle.p3_pcs.specs.Claims.{point_claim}
use Rattle.fri_numbers.specs.Claims.{point_by, point_listed}
use Rattle.fri_numbers.specs.Claimed.{IsPointClaimBy}
use Rattle.fri_numbers.proofs.Failed.{malformed_part, read_wants, malformed}
use Rattle.fri_numbers.proofs.Images.{image_all, image_more, same_numbers}
use Rattle.fri_numbers.proofs.Listed.{not_all}
use Rattle.fri_numbers.proofs.claims.matrix_opening.Goals as goal

pub returns-in_err-domain-clause-refused : goal.returns-in_err-domain-clause-refused
returns-in_err-domain-clause-refused g c =
    malformed _ _ _ c.from_residual.ensures.1
    (λ whole. c.in_err-domain.ensures.refused whole.domain)

pub returns-in_err-point_opening-clause-refused : goal.returns-in_err-point_opening-clause-refused
returns-in_err-point_opening-clause-refused g c =
    malformed_part _ _ _ _ c.from_residual-in_err-point_opening.ensures.1
    c.in_err-point_opening.ensures.refused
    (λ fails whole. not_all (IsPointClaimBy g.N.Numbered.IsPoint) point_listed _ c.loop-index.index c.point-item.result
    c.loop-index-test.true c.point-item.is fails
    (subst (λ ps. All (IsPointClaimBy g.N.Numbered.IsPoint) (map point_listed ps)) (sym c.deref-point-items.ensures.value) whole.points))

pub loop-index-preserved : goal.loop-index-preserved
loop-index-preserved g c =
    let whole = c.deref-point-items.ensures.value in
    image_more (point_by g.N.Numbered.numbers_of) point_claim point_listed c.loop-index.points.items
    c.push.new.self.items c.args.claims.now.points.items c.loop-index.index
    c.in_ok-point_opening.field-0 c.point-item.result
    (subst (λ ys. c.loop-index.index < length ys) whole c.loop-index-test.true)
    (subst (λ ys. c.point-item.result ≡ get_or ys c.loop-index.index c.point-item.result) whole
    c.point-item.is)
    c.in_ok-push.ensures.items c.in_ok-point_opening.ensures.numbers c.loop-index.invariant

pub returns-clause-numbers : goal.returns-clause-numbers
returns-clause-numbers g c =
    same_numbers c.in_ok-domain.ensures.shift c.in_ok-domain.ensures.log_size
    (image_all (map point_listed) c.args.claims.now.points.items c.loop-index.index
    (subst (λ ys. length ys ≤ c.loop-index.index) c.deref-point-items.ensures.value c.loop-index-test.false)
    c.loop-index.invariant)

-- where nothing is answered nothing is said of the answer
pub returns-in_err-domain-clause-numbers : goal.returns-in_err-domain-clause-numbers
returns-in_err-domain-clause-numbers g c = IfOk-from_err c.from_residual.result _ c.from_residual.ensures.0

pub returns-in_err-points-clause-numbers : goal.returns-in_err-points-clause-numbers
returns-in_err-points-clause-numbers g c = IfOk-from_err c.from_residual-in_err-points.result _ c.from_residual-in_err-points.ensures.0

pub returns-in_err-points-clause-refused : goal.returns-in_err-points-clause-refused
returns-in_err-points-clause-refused g c = read_wants c.from_residual-in_err-points.result _ c.from_residual-in_err-points.ensures.1

pub returns-in_err-point_opening-clause-numbers : goal.returns-in_err-point_opening-clause-numbers
returns-in_err-point_opening-clause-numbers g c = IfOk-from_err c.from_residual-in_err-point_opening.result _ c.from_residual-in_err-point_opening.ensures.0

pub returns-in_err-push-clause-numbers : goal.returns-in_err-push-clause-numbers
returns-in_err-push-clause-numbers g c = IfOk-from_err c.from_residual-in_err-push.result _ c.from_residual-in_err-push.ensures.0

pub returns-in_err-push-clause-refused : goal.returns-in_err-push-clause-refused
returns-in_err-push-clause-refused g c = read_wants c.from_residual-in_err-push.result _ c.from_residual-in_err-push.ensures.1
