use Rattle.std.proofs.Common.{◌≡◌, take}
use Rattle.p3_mmcs.specs.Batch.{dimensions_of}
use Rattle.p3_fri_prover_tests.proofs.proofs.dimensions.Given as goal

abbrev pub invariant-loop-matrix : goal.invariant-loop-matrix
invariant-loop-matrix g l = l.all.items ≡ dimensions_of (take l.matrix-index l.matrices)
