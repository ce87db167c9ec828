use Rattle.std.proofs.Common.{◌≡◌, take, map}
use Rattle.algebra.specs.Nested.{lists}
use Rattle.p3_mmcs.specs.Batch.{opened_row}
use Rattle.p3_mmcs.proofs.sha256_mmcs.opening.rows_at.Given as goal

abbrev pub invariant-loop-matrix : goal.invariant-loop-matrix
invariant-loop-matrix g l = lists l.set.items
    ≡ map (opened_row l.height l.index) (take l.matrix-index l.matrices)
