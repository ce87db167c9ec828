use Rattle.std.proofs.Common.{rules}
use Rattle.p3_fri_hiding_openings.proofs.append.expected_count.Goals as goal

pub returns-then-index-round : goal.returns-then-index-round
returns-then-index-round c = search rules
