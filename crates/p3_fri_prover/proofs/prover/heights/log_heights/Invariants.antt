use Rattle.std.proofs.Common.{take}
use Rattle.algebra.specs.Nested.{lists}
use Rattle.p3_fri_prover.specs.Inputs.{HaveHeights}
use Rattle.p3_fri_prover.proofs.prover.heights.log_heights.Given as goal

abbrev pub invariant-loop-input : goal.invariant-loop-input
invariant-loop-input g l = HaveHeights l.heights.items (take l.input-index (lists l.inputs))
