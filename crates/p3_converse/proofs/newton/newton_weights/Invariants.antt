use Rattle.std.proofs.Common.{◌≡◌}
use Rattle.algebra.specs.Polynomial.{tabulate}
use Rattle.p3_converse.proofs.NewtonForm.{product_before}
use Rattle.p3_converse.proofs.newton.newton_weights.Given as goal

abbrev pub invariant-loop-t : goal.invariant-loop-t
invariant-loop-t g l = l.scratch.items ≡ tabulate l.t (product_before g.F.Field.ops l.points)
