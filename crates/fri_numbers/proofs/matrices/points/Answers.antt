use Rattle.std.proofs.Common.{All, subst, sym, ◌≡◌, ◌<◌, ◌≤◌, length, get_or, ◌∙◌}
use Rattle.std.proofs.lemmas.Result.{IfOk-from_err}
use Rattle.algebra.specs.Nested.{lists}
use Rattle.fri_numbers.proofs.Failed.{malformed, read_wants}
use Rattle.fri_numbers.proofs.Listed.{not_all}
use Rattle.fri_numbers.proofs.Images.{image_all, count_more}
use Rattle.fri_numbers.proofs.Kept.{same_more}
use Rattle.fri_numbers.proofs.matrices.points.Goals as goal

pub loop-index-preserved : goal.loop-index-preserved
loop-index-preserved g c =
    let whole = c.deref-point-items.ensures.value in
    let i = c.loop-index.index in
    record {
      count = count_more c.loop-index.all.items c.push.new.self.items c.in_ok-read_point.field-0
          i c.in_ok-push.ensures.items c.loop-index.invariant.count;
      numbers = same_more g.N.Numbered.numbers_of (λ v. v.items) c.loop-index.all.items
          c.push.new.self.items c.args.matrix.now.points.items i c.in_ok-read_point.field-0
          c.point-item.result (subst (λ ys. i < length ys) whole c.loop-index-test.true)
          (subst (λ ys. c.point-item.result ≡ get_or ys i c.point-item.result) whole c.point-item.is)
          c.in_ok-push.ensures.items
          (c.in_ok-read_point.ensures.numbers ∙ c.deref.ensures.value)
          c.loop-index.invariant.numbers;
    }

pub returns-clause-numbers : goal.returns-clause-numbers
returns-clause-numbers g c =
    image_all (λ ps. lists ps) c.args.matrix.now.points.items c.loop-index.index
    (subst (λ ys. length ys ≤ c.loop-index.index) c.deref-point-items.ensures.value
    c.loop-index-test.false)
    c.loop-index.invariant.numbers

pub returns-in_err-read_point-clause-refused :
    goal.returns-in_err-read_point-clause-refused
returns-in_err-read_point-clause-refused g c =
    malformed _ _ _ c.from_residual-in_err-read_point.ensures.1
    (λ whole. not_all g.N.Numbered.IsPoint (λ numbers. numbers.items) c.deref-point-items.result.now
    c.loop-index.index c.point-item.result c.loop-index-test.true c.point-item.is
    (λ is. c.in_err-read_point.ensures.refused (subst g.N.Numbered.IsPoint (sym c.deref.ensures.value) is))
    (subst (λ ps. All g.N.Numbered.IsPoint (lists ps)) (sym c.deref-point-items.ensures.value) whole.elements))

-- where nothing is answered nothing is said of the answer
pub returns-in_err-all-clause-some : goal.returns-in_err-all-clause-some
returns-in_err-all-clause-some g c = IfOk-from_err c.from_residual.result _ c.from_residual.ensures.0

pub returns-in_err-all-clause-numbers : goal.returns-in_err-all-clause-numbers
returns-in_err-all-clause-numbers g c = IfOk-from_err c.from_residual.result _ c.from_residual.ensures.0

pub returns-in_err-all-clause-refused : goal.returns-in_err-all-clause-refused
returns-in_err-all-clause-refused g c = read_wants c.from_residual.result _ c.from_residual.ensures.1

pub returns-in_err-read_point-clause-some : goal.returns-in_err-read_point-clause-some
returns-in_err-read_point-clause-some g c = IfOk-from_err c.from_residual-in_err-read_point.result _ c.from_residual-in_err-read_point.ensures.0

pub returns-in_err-read_point-clause-numbers : goal.returns-in_err-read_point-clause-numbers
returns-in_err-read_point-clause-numbers g c = IfOk-from_err c.from_residual-in_err-read_point.result _ c.from_residual-in_err-read_point.ensures.0

pub returns-in_err-push-clause-some : goal.returns-in_err-push-clause-some
returns-in_err-push-clause-some g c = IfOk-from_err c.from_residual-in_err-push.result _ c.from_residual-in_err-push.ensures.0

pub returns-in_err-push-clause-numbers : goal.returns-in_err-push-clause-numbers
returns-in_err-push-clause-numbers g c = IfOk-from_err c.from_residual-in_err-push.result _ c.from_residual-in_err-push.ensures.0

pub returns-in_err-push-clause-refused : goal.returns-in_err-push-clause-refused
returns-in_err-push-clause-refused g c = read_wants c.from_residual-in_err-push.result _ c.from_residual-in_err-push.ensures.1
