use Rattle.std.proofs.Common.{take}
use Rattle.algebra.specs.Nested.{nested}
use Rattle.fri_commitments.specs.Read.{ArePointsBy}
use Rattle.fri_commitments.proofs.reading.points_of.Given as goal

abbrev pub invariant-loop-index : goal.invariant-loop-index
invariant-loop-index g l = ArePointsBy g.N.Numbered.numbers_of (nested l.all.items) (take l.index l.batches)
