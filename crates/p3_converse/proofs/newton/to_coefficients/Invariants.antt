use Rattle.std.proofs.Common.{◌≡◌, ◌++◌, take, drop}
use Rattle.p3_converse.specs.Newton.{expanded}
use Rattle.p3_converse.proofs.newton.to_coefficients.Given as goal

abbrev pub invariant-loop-s : goal.invariant-loop-s
invariant-loop-s g l = l.coefficients ≡ take l.s l.initial.coefficients ++ expanded g.F.Field.ops (drop l.s l.points) (drop l.s l.initial.coefficients)
