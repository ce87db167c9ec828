use Rattle.std.proofs.Common.{◌∷◌, take, map}
use Rattle.std.specs.List.{flat_map}
use Rattle.p3_mmcs.specs.Batch.{opened_row}
use Rattle.p3_mmcs.specs.Buffer.{HoldsMessage}
use Rattle.p3_mmcs.specs.Tree.{row_bytes}
use Rattle.p3_mmcs.proofs.sha256_mmcs.digests.leaf_digest_at.Given as goal

abbrev pub invariant-loop-matrix : goal.invariant-loop-matrix
invariant-loop-matrix g l =
    HoldsMessage l.hasher (0 ∷ flat_map (row_bytes g.T.ElementBytes.bytes)
    (map (opened_row l.height l.index) (take l.matrix-index l.matrices)))
