use Rattle.std.proofs.Common.{take}
use Rattle.algebra.specs.Nested.{lists}
use Rattle.p3_fri_prover.specs.Inputs.{HaveHeights}
use Rattle.p3_fri_prover_tests.proofs.proofs.words_of.Given as goal

abbrev pub invariant-loop-log_height : goal.invariant-loop-log_height
invariant-loop-log_height g l =
    HaveHeights (take l.log_height-index l.log_heights) (lists l.words.items)
