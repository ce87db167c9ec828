use Rattle.std.proofs.Common.{rules}
use Rattle.p3_fri_folding.proofs.lanes.half_inverses_from.Goals as goal

pub returns : goal.returns
returns g c l a within e = let called = c.from_fn.ensures l within in search rules
