use Rattle.std.proofs.Common.{◌≡◌, ◌++◌, take}
use Rattle.p3_converse.specs.Positions.{coefficients_at}
use Rattle.algebra.specs.Nested.{lists}
use Rattle.p3_converse.proofs.by_position.push_coefficients_at.Given as goal

abbrev pub invariant-loop-poly : goal.invariant-loop-poly
invariant-loop-poly g l = l.entries.items ≡ l.initial.entries.items ++ coefficients_at g.F.Field.ops (lists (take l.poly-index l.polys)) l.position
