use Rattle.std.proofs.Common.{◌≡◌, ◌+◌, drop}
use Rattle.p3_mmcs.specs.Batch.{dimensions_of}
use Rattle.p3_mmcs.specs.Encoding.{rows_length}
use Rattle.p3_mmcs.proofs.sha256_mmcs.encoding.leaf_len.Given as goal

abbrev pub invariant-loop-matrix : goal.invariant-loop-matrix
invariant-loop-matrix g l =
    l.len + rows_length g.T.ElementBytes.LEN (dimensions_of (drop l.matrix-index l.matrices))
    ≡ 1 + rows_length g.T.ElementBytes.LEN (dimensions_of l.matrices)
