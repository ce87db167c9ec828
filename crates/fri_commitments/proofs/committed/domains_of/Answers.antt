use Rattle.std.proofs.lemmas.Result.{IfOk-from_err}
use Rattle.fri_numbers.proofs.Images.{read_more, image_all}
use Rattle.std.proofs.Common.{map, refl}
use Rattle.fri_commitments.proofs.committed.domains_of.Goals as goal

pub loop-evaluation-preserved : goal.loop-evaluation-preserved
loop-evaluation-preserved g c =
    read_more (λ e. e.0) c.loop-evaluation.domains.items c.push.new.self.items
    c.args.evaluations.now c.loop-evaluation.evaluation-index _ c.evaluation-item.result
    c.loop-evaluation-test.true c.evaluation-item.is c.in_ok-push.ensures.items refl
    c.loop-evaluation.invariant

pub returns : goal.returns
returns g c =
    image_all (λ es. map (λ e. e.0) es) c.args.evaluations.now c.loop-evaluation.evaluation-index
    c.loop-evaluation-test.false c.loop-evaluation.invariant

-- where nothing is answered nothing is said of the answer
pub returns-in_err-domains : goal.returns-in_err-domains
returns-in_err-domains g c = IfOk-from_err c.from_residual.result _ c.from_residual.ensures.0

pub returns-in_err-push : goal.returns-in_err-push
returns-in_err-push g c = IfOk-from_err c.from_residual-in_err-push.result _ c.from_residual-in_err-push.ensures.0
