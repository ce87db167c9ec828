use Rattle.std.proofs.Common.{rules}
use Rattle.p3_challenger.proofs.Runs.{run-observed_all}
use Rattle.p3_challenger_tests.proofs.sha256_challenger.draws_after.Goals as goal

pub returns : goal.returns
returns g c = rw (run-observed_all, ← c.observe_slice.ensures) (search rules)
