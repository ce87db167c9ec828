use Rattle.std.proofs.Common.{◌≡◌, length}
use Rattle.refused_calls.proofs.matrices.points.Given as goal

abbrev pub invariant-loop-matrix : goal.invariant-loop-matrix
invariant-loop-matrix l = length l.all.items ≡ l._matrix
