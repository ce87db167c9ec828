use Rattle.std.proofs.Common.{◌≡◌, drop}
use Rattle.algebra.specs.Polynomial.{val}
use Rattle.p3_periodic.proofs.evaluator.evaluate.Given as goal

abbrev pub invariant-loop-k : goal.invariant-loop-k
invariant-loop-k g l = l.value ≡ val g.F.Field.ops (drop l.k l.coefficients) l.point
