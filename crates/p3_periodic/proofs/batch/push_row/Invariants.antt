use Rattle.std.proofs.Common.{◌≡◌, ◌++◌, take, map}
use Rattle.algebra.specs.Nested.{lists}
use Rattle.p3_periodic.specs.Batches.{entry_at}
use Rattle.p3_periodic.proofs.batch.push_row.Given as goal

abbrev pub invariant-loop-c : goal.invariant-loop-c
invariant-loop-c g l =
    l.values.items ≡ l.initial.values.items
    ++ map (entry_at g.F.Field.ops (lists l.columns) l.row) (take l.c l.places)
