use Rattle.std.proofs.Common.{◌≡◌, [], take}
use Rattle.std.specs.List.{flat_map}
use Rattle.fri_commitments.proofs.reading.have_matrix.Given as goal

abbrev pub invariant-loop-batch : goal.invariant-loop-batch
invariant-loop-batch l = flat_map (λ b. b.matrices.items) (take l.batch-index l.batches) ≡ []
