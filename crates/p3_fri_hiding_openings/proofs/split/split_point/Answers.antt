use Rattle.std.proofs.Common.{rules}
use Rattle.p3_fri_hiding_openings.proofs.split.split_point.Goals as goal

pub returns-clause-shown : goal.returns-clause-shown
returns-clause-shown g c = search rules
