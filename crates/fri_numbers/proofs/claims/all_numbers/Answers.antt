use Rattle.std.proofs.lemmas.Result.{IfOk-from_err}
use Rattle.std.proofs.Common.{map}
use Rattle.fri_numbers.proofs.Images.{image_all}
use Rattle.fri_numbers.proofs.Kept.{same_more}
use Rattle.fri_numbers.proofs.claims.all_numbers.Goals as goal

pub loop-point-preserved : goal.loop-point-preserved
loop-point-preserved g c =
    same_more (λ v. v.items) g.N.Numbered.numbers_of c.loop-point.all.items c.push.new.self.items
    c.args.points.now c.loop-point.point-index c.in_ok-point_numbers.field-0
    c.point-item.result c.loop-point-test.true c.point-item.is c.in_ok-push.ensures.items
    c.in_ok-point_numbers.ensures c.loop-point.invariant

pub returns : goal.returns
returns g c =
    image_all (λ es. map g.N.Numbered.numbers_of es) c.args.points.now c.loop-point.point-index
    c.loop-point-test.false c.loop-point.invariant

-- where nothing is answered nothing is said of the answer
pub returns-in_err-all : goal.returns-in_err-all
returns-in_err-all g c = IfOk-from_err c.from_residual.result _ c.from_residual.ensures.0

pub returns-in_err-point_numbers : goal.returns-in_err-point_numbers
returns-in_err-point_numbers g c = IfOk-from_err c.from_residual-in_err-point_numbers.result _ c.from_residual-in_err-point_numbers.ensures.0

pub returns-in_err-push : goal.returns-in_err-push
returns-in_err-push g c = IfOk-from_err c.from_residual-in_err-push.result _ c.from_residual-in_err-push.ensures.0
