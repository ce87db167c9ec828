use Rattle.algebra.proofs.Periodic.{periodic_value_at_point}
use Rattle.algebra.proofs.periodic_law.Goals as goal

pub returns : goal.returns
returns g c F L top w W = periodic_value_at_point F L top w W
