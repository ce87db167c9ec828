use Rattle.p3_fri_hiding_tests.specs.Fits.{Fits}
use Rattle.p3_fri_hiding_tests.proofs.Each.{pushed}
use Rattle.p3_fri_hiding_tests.proofs.matrices.evaluations.Goals as goal

pub loop-entries-preserved : goal.loop-entries-preserved
loop-entries-preserved g c =
    pushed (λ e. Fits c.args.factor e.0.log_size e.1) c.loop-entries.all.items c.push.new.list.items
    c.evaluation.result c.push.ensures c.loop-entries.invariant
    c.evaluation.ensures
