use Rattle.std.proofs.Common.{◌≡◌, drop}
use Rattle.p3_converse.specs.Newton.{newton_val}
use Rattle.p3_converse.proofs.newton.newton_value.Given as goal

abbrev pub invariant-loop-s : goal.invariant-loop-s
invariant-loop-s g l = l.value ≡ newton_val g.F.Field.ops (drop l.s l.points) (drop l.s l.coefficients) l.x
