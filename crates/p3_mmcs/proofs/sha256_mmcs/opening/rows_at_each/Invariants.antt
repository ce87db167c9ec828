use Rattle.std.proofs.Common.{◌≡◌, take, map}
use Rattle.algebra.specs.Nested.{nested}
use Rattle.p3_mmcs.specs.Batch.{opened_rows}
use Rattle.p3_mmcs.proofs.sha256_mmcs.opening.rows_at_each.Given as goal

abbrev pub invariant-loop-index : goal.invariant-loop-index
invariant-loop-index g l = nested l.sets.items
    ≡ map (opened_rows l.matrices) (take l.index-index l.indices)
