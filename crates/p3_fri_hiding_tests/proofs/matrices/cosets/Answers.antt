use Rattle.std.proofs.Common.{◌≤◌}
use Rattle.p3_fri_hiding_tests.proofs.Each.{pushed}
use Rattle.p3_fri_hiding_tests.proofs.matrices.cosets.Goals as goal

pub loop-one-preserved : goal.loop-one-preserved
loop-one-preserved g c =
    pushed (λ d. d.log_size ≤ 8) c.loop-one.domains.items c.push.new.list.items
    c.coset.result c.push.ensures c.loop-one.invariant
    c.coset.ensures.few
