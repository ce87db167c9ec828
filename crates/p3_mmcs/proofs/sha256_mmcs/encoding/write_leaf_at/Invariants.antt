use Rattle.std.proofs.Common.{◌≡◌, ◌+◌, [], ◌∷◌, ◌++◌, take, drop, map, length}
use Rattle.std.specs.List.{flat_map}
use Rattle.p3_mmcs.specs.Batch.{dimensions_of, opened_row}
use Rattle.p3_mmcs.specs.Encoding.{rows_length}
use Rattle.p3_mmcs.specs.Tree.{row_bytes}
use Rattle.p3_mmcs.proofs.sha256_mmcs.encoding.write_leaf_at.Given as goal

abbrev pub invariant-loop-matrix : goal.invariant-loop-matrix
invariant-loop-matrix g l = record {
  place : l.at + rows_length g.T.ElementBytes.LEN (dimensions_of (drop l.matrix-index l.matrices))
      ≡ length l.out;
  written : take l.at l.out ≡ (0 ∷ []) ++ flat_map (row_bytes g.T.ElementBytes.bytes)
      (take l.matrix-index (map (opened_row l.height l.index) l.matrices));
}
