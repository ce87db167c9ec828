use Rattle.p3_air.specs.WellFormed.{AreGrounded}
use Rattle.p3_air.proofs.air.Air.check_nodes.Given as goal

abbrev pub invariant-loop-at : goal.invariant-loop-at
invariant-loop-at g l = AreGrounded l.self.layout l.self.nodes.items l.at
