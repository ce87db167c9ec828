use Rattle.p3_stark_pcs_tests.proofs.Domains.{one_more_domain}
use Rattle.p3_stark_pcs_tests.proofs.columns.domains_of.Goals as goal

pub loop-evaluation-preserved : goal.loop-evaluation-preserved
loop-evaluation-preserved g c =
    one_more_domain c.args.evaluations.now c.loop-evaluation.evaluation-index
    c.evaluation-item.result c.loop-evaluation.domains.items _ c.loop-evaluation-test.true
    c.evaluation-item.is (rw c.expect.ensures at c.push.ensures.items) c.loop-evaluation.invariant
