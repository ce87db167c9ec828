use Rattle.std.proofs.Common.{◌≡◌, drop}
use Rattle.algebra.specs.Nested.{lists}
use Rattle.p3_fri_prover.specs.Inputs.{of_length}
use Rattle.p3_fri_prover.proofs.prover.roll_in.input_of_length.Given as goal

abbrev pub invariant-loop-input : goal.invariant-loop-input
invariant-loop-input g l =
    of_length (drop l.input-index (lists l.inputs)) l.len ≡ of_length (lists l.inputs) l.len
