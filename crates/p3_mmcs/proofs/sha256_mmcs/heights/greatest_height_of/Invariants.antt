use Rattle.std.proofs.Common.{◌≡◌, take}
use Rattle.p3_mmcs.specs.Batch.{max_height, dimensions_of}
use Rattle.p3_mmcs.proofs.sha256_mmcs.heights.greatest_height_of.Given as goal

abbrev pub invariant-loop-matrix : goal.invariant-loop-matrix
invariant-loop-matrix g l = l.greatest ≡ max_height (dimensions_of (take l.matrix-index l.matrices))
