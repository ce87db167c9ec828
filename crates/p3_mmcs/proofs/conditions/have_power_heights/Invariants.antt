use Rattle.std.proofs.Common.{take}
use Rattle.p3_mmcs.specs.Batch.{HavePowerHeights}
use Rattle.p3_mmcs.proofs.conditions.have_power_heights.Given as goal

abbrev pub invariant-loop-d : goal.invariant-loop-d
invariant-loop-d l = HavePowerHeights (take l.d-index l.dimensions)
