use Rattle.std.proofs.Common.{◌<◌, All, take, length}
use Rattle.p3_air.proofs.air.Air.check.Given as goal

abbrev pub invariant-loop-constraint : goal.invariant-loop-constraint
invariant-loop-constraint g l =
    All (λ c. c.node < length l.self.nodes.items) (take l.constraint l.self.constraints.items)
