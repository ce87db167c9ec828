use Rattle.algebra.proofs.PointTest.{vanishing_exactly, cosets_apart}
use Rattle.algebra.proofs.cosets_law.Goals as goal

pub returns-clause-vanishing : goal.returns-clause-vanishing
returns-clause-vanishing g c F L top w W shift n k b x = vanishing_exactly F L top w W shift n k b x

pub returns-clause-apart : goal.returns-clause-apart
returns-clause-apart g c F L top w W s t n k b other = cosets_apart F L top w W s t n k b other
