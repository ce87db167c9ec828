use Rattle.std.proofs.lemmas.Result.{IfOk-from_err}
use Rattle.fri_numbers.proofs.Images.{read_more, image_all}
use Rattle.std.proofs.Common.{map, refl}
use Rattle.fri_verification.proofs.statement.points_claimed.Goals as goal

pub loop-opening-preserved : goal.loop-opening-preserved
loop-opening-preserved g c =
    read_more (λ p. p.point) c.loop-opening.all.items c.push.new.self.items c.args.points.now
    c.loop-opening.opening-index _ c.opening-item.result c.loop-opening-test.true c.opening-item.is
    c.in_ok-push.ensures.items refl c.loop-opening.invariant

pub returns : goal.returns
returns g c =
    image_all (λ ps. map (λ p. p.point) ps) c.args.points.now c.loop-opening.opening-index
    c.loop-opening-test.false c.loop-opening.invariant

-- where nothing is answered nothing is said of the answer
pub returns-in_err-all : goal.returns-in_err-all
returns-in_err-all g c = IfOk-from_err c.from_residual.result _ c.from_residual.ensures.0

pub returns-in_err-push : goal.returns-in_err-push
returns-in_err-push g c = IfOk-from_err c.from_residual-in_err-push.result _ c.from_residual-in_err-push.ensures.0
