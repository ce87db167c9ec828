use Rattle.std.proofs.Common.{rules}
use Rattle.p3_fri_hiding_openings.proofs.append.append_at_point.Goals as goal

pub returns : goal.returns
returns g c = search rules
