use Rattle.std.proofs.Common.{◌≡◌, All, take, length}
use Rattle.algebra.specs.Nested.{lists}
use Rattle.p3_uni_stark_statement.proofs.matrix.have_width.Given as goal

abbrev pub invariant-loop-i : goal.invariant-loop-i
invariant-loop-i g l = All (λ row. length row ≡ l.width) (take l.i (lists l.rows))
