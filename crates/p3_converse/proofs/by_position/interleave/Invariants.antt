use Rattle.std.proofs.Common.{◌≡◌}
use Rattle.p3_converse.specs.Positions.{interleaved}
use Rattle.algebra.specs.Nested.{lists}
use Rattle.p3_converse.proofs.by_position.interleave.Given as goal

abbrev pub invariant-loop-position : goal.invariant-loop-position
invariant-loop-position g l = l.entries.items ≡ interleaved g.F.Field.ops (lists l.polys) l.position
