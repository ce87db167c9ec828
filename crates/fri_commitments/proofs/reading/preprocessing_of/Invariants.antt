use Rattle.std.proofs.Common.{take}
use Rattle.fri_commitments.specs.Preprocessing.{NamesPreprocessed}
use Rattle.fri_commitments.proofs.reading.preprocessing_of.Given as goal

abbrev pub invariant-loop-index : goal.invariant-loop-index
invariant-loop-index l = NamesPreprocessed l.found (take l.index l.batches)
