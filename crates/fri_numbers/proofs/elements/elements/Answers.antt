use Rattle.std.proofs.lemmas.Result.{IfOk-from_err}
use Rattle.fri_numbers.proofs.Failed.{read_wants}
use Rattle.std.proofs.Common.{sym, ◌∙◌}
use Rattle.fri_numbers.proofs.Images.{taken_more, count_more, image_all}
use Rattle.fri_numbers.proofs.elements.elements.Goals as goal

pub loop-index-preserved : goal.loop-index-preserved
loop-index-preserved g c = (
  taken_more g.F.PrimeField64.canonical c.loop-index.values.items c.push.new.self.items c.args.numbers.now
      c.loop-index.index c.in-Some.value _ c.loop-index-test.true c.in_ok-push.ensures.items
      c.in-Some.ensures.number c.loop-index.invariant.0,
  c.push.new.self.ok.0
      ∙ count_more c.loop-index.values.items c.push.new.self.items c.in-Some.value c.loop-index.index
      c.in_ok-push.ensures.items (sym c.loop-index.values.ok.0 ∙ c.loop-index.invariant.1),
)

pub returns-clause-numbers : goal.returns-clause-numbers
returns-clause-numbers g c =
    image_all (λ ns. ns) c.args.numbers.now c.loop-index.index c.loop-index-test.false
    c.loop-index.invariant.0

-- where nothing is answered nothing is said of the answer
pub returns-in_err-values-clause-numbers : goal.returns-in_err-values-clause-numbers
returns-in_err-values-clause-numbers g c = IfOk-from_err c.from_residual.result _ c.from_residual.ensures.0

pub returns-in_err-values-clause-count : goal.returns-in_err-values-clause-count
returns-in_err-values-clause-count g c = IfOk-from_err c.from_residual.result _ c.from_residual.ensures.0

pub returns-in_err-values-clause-refused : goal.returns-in_err-values-clause-refused
returns-in_err-values-clause-refused g c = read_wants c.from_residual.result _ c.from_residual.ensures.1

pub returns-in_err-push-clause-numbers : goal.returns-in_err-push-clause-numbers
returns-in_err-push-clause-numbers g c = IfOk-from_err c.from_residual-in_err-push.result _ c.from_residual-in_err-push.ensures.0

pub returns-in_err-push-clause-count : goal.returns-in_err-push-clause-count
returns-in_err-push-clause-count g c = IfOk-from_err c.from_residual-in_err-push.result _ c.from_residual-in_err-push.ensures.0

pub returns-in_err-push-clause-refused : goal.returns-in_err-push-clause-refused
returns-in_err-push-clause-refused g c = read_wants c.from_residual-in_err-push.result _ c.from_residual-in_err-push.ensures.1
