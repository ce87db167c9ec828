use Rattle.p3_challenger_core.proofs.Runs.{runs_join}
use Rattle.p3_challenger_core.proofs.laws.run_law.Goals as goal

pub returns : goal.returns
returns g c = runs_join
