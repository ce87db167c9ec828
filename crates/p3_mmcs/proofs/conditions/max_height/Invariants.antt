use Rattle.std.proofs.Common.{◌≡◌, take}
use Rattle.p3_mmcs.specs.Batch.{max_height}
use Rattle.p3_mmcs.proofs.conditions.max_height.Given as goal

abbrev pub invariant-loop-d : goal.invariant-loop-d
invariant-loop-d l = l.greatest ≡ max_height (take l.d-index l.dimensions)
