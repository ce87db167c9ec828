use Rattle.std.proofs.Common.{sym, subst, map, ◌∙◌}
use Rattle.std.proofs.lemmas.Result.{IfOk-from_err}
use Rattle.fri_numbers.proofs.Failed.{malformed, read_wants}
use Rattle.fri_numbers.proofs.Listed.{not_all}
use Rattle.fri_numbers.proofs.Images.{image_all}
use Rattle.fri_numbers.proofs.Kept.{same_more}
use Rattle.fri_numbers.proofs.elements.read_points.Goals as goal

pub loop-index-preserved : goal.loop-index-preserved
loop-index-preserved g c =
    same_more g.N.Numbered.numbers_of (λ numbers. numbers.items) c.loop-index.values.items
    c.push.new.self.items c.args.lists.now c.loop-index.index c.in_ok-read_point.field-0
    c.index-lists-index.result c.loop-index-test.true c.index-lists-index.is c.in_ok-push.ensures.items
    (c.in_ok-read_point.ensures.numbers ∙ c.deref.ensures.value) c.loop-index.invariant

pub returns-clause-numbers : goal.returns-clause-numbers
returns-clause-numbers g c =
    image_all (map (λ numbers. numbers.items)) c.args.lists.now c.loop-index.index
    c.loop-index-test.false c.loop-index.invariant

pub returns-in_err-read_point-clause-refused :
    goal.returns-in_err-read_point-clause-refused
returns-in_err-read_point-clause-refused g c =
    malformed _ _ _ c.from_residual-in_err-read_point.ensures.1
    (not_all g.N.Numbered.IsPoint (λ numbers. numbers.items) c.args.lists.now c.loop-index.index
    c.index-lists-index.result c.loop-index-test.true c.index-lists-index.is
    (λ is. c.in_err-read_point.ensures.refused (subst g.N.Numbered.IsPoint (sym c.deref.ensures.value) is)))

-- where nothing is answered nothing is said of the answer
pub returns-in_err-values-clause-numbers : goal.returns-in_err-values-clause-numbers
returns-in_err-values-clause-numbers g c = IfOk-from_err c.from_residual.result _ c.from_residual.ensures.0

pub returns-in_err-values-clause-refused : goal.returns-in_err-values-clause-refused
returns-in_err-values-clause-refused g c = read_wants c.from_residual.result _ c.from_residual.ensures.1

pub returns-in_err-read_point-clause-numbers : goal.returns-in_err-read_point-clause-numbers
returns-in_err-read_point-clause-numbers g c = IfOk-from_err c.from_residual-in_err-read_point.result _ c.from_residual-in_err-read_point.ensures.0

pub returns-in_err-push-clause-numbers : goal.returns-in_err-push-clause-numbers
returns-in_err-push-clause-numbers g c = IfOk-from_err c.from_residual-in_err-push.result _ c.from_residual-in_err-push.ensures.0

pub returns-in_err-push-clause-refused : goal.returns-in_err-push-clause-refused
returns-in_err-push-clause-refused g c = read_wants c.from_residual-in_err-push.result _ c.from_residual-in_err-push.ensures.1
